-- `optimize` step by step: an If by its parts; of any other node the own words at top and the parts passed behind them,
-- which is all of a target, a list or a dict, and of any other expression what its constructor is applied to.
-- Assumes nothing.
use mathlib.Core.Bool.{Bool, true, false}
use mathlib.Core.List.{List, [], ◌∷◌}
use mathlib.Core.Path.{◌≡◌, refl, ap, ap₂, sym, subst, ◌∙◌}
use Prim.Native.Nat.{ℕ, ◌+◌, ◌≤◌, ◌<◌}
use native.Mathlib.Omega.{arith}
use borrow.Author.Tests.{ne_eqb, lt-leb}
use lib.ListN.{length, get_or, drop}
use Rattle.spec.specs.Rose.{Rose, node, nil, size, At, Ats, own_of, parts_of}
use Rattle.spec.specs.Grammar.{kind_in, detail_in, within, part_count, Valid, Valids}
use Rattle.spec.specs.Tree.{Expr, if_then, rose_e, bit_of}
use Rattle.spec.specs.Meaning.{expr_by, expr_of, exprs_of, part_e}
use Rattle.spec.specs.Proper.{Proper, ValidExpr}
use Rattle.spec.specs.Weight.{weight, weights, expr_room}
use Rattle.spec.specs.Views.{kind_of}
use Rattle.spec.specs.declared.Sort.{Sort}
use Rattle.spec.specs.declared.Sort.TheVariants as sort
use Rattle.spec.proofs.Heads.{within_low, within_high}
use Rattle.spec.proofs.Meanings.{expr_parts, rose_expr, proper_expr}
use Rattle.spec.proofs.Weights.{rose_weight}
use Rattle.tables.specs.Kinds.{expr_number, target_number}
use Rattle.tables.specs.declared.exprs.ExprKind.{ExprKind}
use Rattle.tables.specs.declared.exprs.ExprKind.TheVariants as exprs
use Rattle.tables.specs.declared.targets.TargetKind.{TargetKind}
use Rattle.tables.specs.declared.targets.TargetKind.TheVariants as targets
use Rattle.ir.specs.Standing.{SomeNode, SomeNodeOf, SomeExpr, SomeTarget, Shape, NodeOf}
use Rattle.ir.proofs.Rows.{bare_pay}
use Rattle.ir.proofs.Nodes.{node_same, bare_of}
use Rattle.ir.proofs.Forests.{size_parts, at_parts}
use Rattle.buffer.specs.Copy.{Same, PutAsk, PutDone}
use Rattle.buffer.proofs.Frames.{same_trans, same_less, same_ats}
use Rattle.purity.specs.Told.{BoolOf}
use Rattle.expr_forms.specs.Made.{Is, Plain, Made, Handed, wholes, remade}
use Rattle.foldable.specs.Places.{folds_here}
use Rattle.foldable.proofs.Ways.{other_way}
use Rattle.expr.proofs.Wholes.{whole_stays}
use Rattle.expr_bool.proofs.Answers.{own_at, own_moved}
use Rattle.optimize.specs.Passed.{is_part, passed, places, passed_all, places_all, Below, Ask, Passed, Done}
use Rattle.optimize.specs.Passed.{AllBelow, PartsAsk, AllPassed, PartsDone, IfAsk, IfDone}
use Rattle.optimize.specs.declared.Optimized.{Optimized}
use Rattle.optimize.proofs.Renewals.{inner, around, expr_valid, expr_made, expr_count, target_made, target_count}
use Rattle.optimize.proofs.Sorts.{by_sort, no_list, no_expr, expr_kind_lem, target_kind, inner_part, inner_expr}
use Rattle.optimize.proofs.Sorts.{inner_parts, own_some, passed_many, passed_sizes, places_size}

-- ---- nodes without payload

-- a node that is no leaf, no Call, no Builtin1 and no Slice has none, and its parts are told by digits
pub bare_numbers : {w : List ℕ} {at k d n : ℕ} → SomeNodeOf w at k d × (within 1 5 k ≡ false) → k < 16 → (k ≡ 11 → ⊥)
    → ((x : ℕ) → n ≡ part_count k d x) → NodeOf w at k d 0 (at + 1) n
bare_numbers {k = k} {d = d} o low builtin e =
    bare_of o.0 (bare_pay k d 0 o.1 (λ q. omega arith) builtin (omega arith)) (e 0)

-- ---- weights

-- a node is as heavy as its own words and its parts
node_weight : (r : Rose) → length (own_of r) + weights (parts_of r) ≤ weight r
node_weight (node s own ps) = omega (arith, (rose_weight (node s own nil)).0)

-- ---- If

-- what a node of kind 9 means
if_means : (r : Rose) → kind_of r ≡ 9
    → expr_of r
    ≡ if_then (part_e 0 (exprs_of (parts_of r))) (part_e 1 (exprs_of (parts_of r))) (part_e 2 (exprs_of (parts_of r)))
unfolding expr_of
if_means (node s own ps) e =
    let h = get_or own 0 0 in
    ap (λ (j : ℕ). expr_by j (detail_in h) h (drop 1 own) (exprs_of ps)) e

-- so it is an If
if_tree : (P : Sort → Rose → Type 0)
    → ((c t f : Expr) → ValidExpr (if_then c t f) → P sort.Expr (rose_e (if_then c t f)))
    → (s : Sort) (r : Rose) → is_part s ≡ true → Valid s r → kind_of r ≡ 9 → P s r
if_tree P q =
    by_sort (λ s r. kind_of r ≡ 9 → P s r) one (λ r v e. absurd (omega (arith, target_kind r v)))
    (λ r v e. absurd (omega (arith, target_kind r v)))
  where
    one : (r : Rose) → Valid sort.Expr r → kind_of r ≡ 9 → P sort.Expr r
    one r v e =
        let es = exprs_of (parts_of r) in
        let means = if_means r e in
        let same = sym (ap rose_e means) ∙ rose_expr r v in
        subst (P sort.Expr) same
        (q (part_e 0 es) (part_e 1 es) (part_e 2 es)
        (subst Proper means (proper_expr r v), subst (Valid sort.Expr) (sym same) v))

-- ---- what is asked

-- a target's kind is above those of expressions
pub expr_below : (kind : ExprKind) → expr_number kind < 64
expr_below exprs.Const = omega arith
expr_below _ = omega arith

target_above : (kind : TargetKind) → 64 ≤ target_number kind
target_above targets.Dot = omega arith
target_above _ = omega arith

-- a header has its node's kind
pub head_kind : (w : List ℕ) (at : ℕ) (s : Sort) (r : Rose) → Valid s r → At w at r
    → kind_in (get_or w at 0) ≡ kind_of r
head_kind w at s (node z [] ps) v t = absurd v.1
head_kind w at s (node z (h ∷ pay) ps) v t = ap kind_in t.0.0

module _ {w : List ℕ} {at top : ℕ} (a : Ask w at top) where
  pub ask_node : SomeNode w at
  ask_node = record {
    sort = a.sort;
    node = no_list a.sort a.is.part;
    tree = a.tree;
    valid = a.is.valid;
    here = a.is.here;
    inside = omega (arith, a.is.below, a.room);
  }

  -- what has no kind of expressions is a target
  pub target_ask : {h n : ℕ} → h ≡ get_or w at 0 → n ≡ kind_in h
      → ((kind : ExprKind) → expr_number kind ≡ n → ⊥) → SomeTarget w at
  target_ask eh en f =
      by_sort (λ s r. At w at r → at + size r ≤ length w → SomeTarget w at)
      (λ r v h i.
      let same = en ∙ ap kind_in eh ∙ head_kind w at sort.Expr r v h in
      absurd (no_expr r v (λ kind q. f kind (q ∙ sym same))))
      target target
      a.sort a.tree a.is.part a.is.valid a.is.here (omega (arith, a.is.below, a.room))
    where
      target : (r : Rose) → Valid sort.Target r → At w at r → at + size r ≤ length w → SomeTarget w at
      target r v h i = record { tree = r; valid = v; here = h; inside = i }

-- ---- the node

module _ {w : List ℕ} {at top k d x first n : ℕ} (o : NodeOf w at k d x first n) where
  shape : (s : Sort) (r : Rose) → Below w at top s r → Shape r at k d x first n
  shape s r b = o.of s r (no_list s b.part) b.valid b.here

  -- parts stand behind the node's own words
  pub past : Ask w at top → (at < first) × (first ≤ top) × (top ≤ length w)
  past a =
      let f = (shape a.sort a.tree a.is).is_first in (
        omega (arith, f, own_some a.sort a.tree a.is.part a.is.valid),
        omega (arith, f, size_parts a.tree, a.is.below),
        omega (arith, a.room),
      )

  -- ---- If

  module _ (e : k ≡ 9) where
    if_kind_lem : (s : Sort) (r : Rose) → Below w at top s r → kind_of r ≡ 9
    if_kind_lem s r b = sym (shape s r b).is_kind ∙ e

    pub if_ask : Ask w at top → IfAsk w at first top
    if_ask a =
        if_tree
        (λ s r. Below w at top s r → first ≡ at + length (own_of r) → top + expr_room (weight r) ≤ length w
        → IfAsk w at first top)
        (λ c t f v b p r. record {
          test = c;
          yes = t;
          no = f;
          is = record { valid = v; here = b.here; below = b.below };
          parts = p;
          room = r;
        })
        a.sort a.tree a.is.part a.is.valid (if_kind_lem a.sort a.tree a.is) a.is
        (shape a.sort a.tree a.is).is_first a.room

    pub if_done : {v : List ℕ} {r : Optimized} → IfDone w v at top r → Done w v at top r
    if_done {v} {r} d = record {
      frame = d.frame;
      right = λ s q b.
          if_tree (λ s q. Below w at top s q → Passed v at top r s q)
          (λ c t f u i. d.right c t f (record { valid = u; here = i.here; below = i.below })) s q b.part
          b.valid (if_kind_lem s q b) b;
    }

  -- ---- any other node

  pub own_put : Ask w at top → PutAsk (length w) at first top
  own_put a = grind (arith, size_parts, rose_weight, no_list, own_some)

  module _ {v : List ℕ} {body : ℕ} (p : PutDone w v at first top body) where
    -- the parts are where they were
    parts_below : (s : Sort) (r : Rose) → Below w at top s r → AllBelow v first n body (inner k) (parts_of r)
    parts_below s r b =
        let h = shape s r b in
        let ends = size_parts r in
        record {
          part = inner_part k;
          valid = subst (λ (j : ℕ). Valids (λ (i : ℕ). inner j) 0 (parts_of r)) (sym h.is_kind)
              (inner_parts s r b.part b.valid);
          here = same_ats (parts_of r) first (omega (arith, h.is_first, ends, b.below)) p.frame
              (subst (λ (j : ℕ). Ats w j (parts_of r)) (sym h.is_first) (at_parts w at r b.here));
          many = h.is_count;
          below = omega (arith, h.is_first, ends, b.below, p.ends);
        }

    pub parts_ask : Ask w at top → PartsAsk v first n body
    parts_ask a =
        let f = (shape a.sort a.tree a.is).is_first in
        record {
          sort = inner k;
          trees = parts_of a.tree;
          are = parts_below a.sort a.tree a.is;
          room = omega (arith, f, p.ends, p.long, node_weight a.tree, a.room);
        }

    module _ {u : List ℕ} {parts : Optimized} (g : PartsDone v u first n body parts) where
      same_top : Same top w u
      same_top = same_trans p.frame (same_less top (omega (arith, p.ends)) g.frame)

      -- the parts passed, and the node around them
      parts_passed : (s : Sort) (r : Rose) → Below w at top s r
          → AllPassed u first body parts (inner k) (parts_of r)
      parts_passed s r b = g.right (inner k) (parts_of r) (parts_below s r b)

      around_at : (s : Sort) (r : Rose) → Below w at top s r → At u top (around (inner k) r)
      around_at s r b =
          let f = (shape s r b).is_first in (
            own_moved (own_of r) f p g.frame (own_at w at r b.here),
            subst (λ (j : ℕ). Ats u j (passed_all (inner k) (parts_of r))) (omega (arith, f, p.ends))
                (parts_passed s r b).here,
          )

      around_ends : (s : Sort) (r : Rose) → Below w at top s r
          → (parts.end ≡ top + size (around (inner k) r)) × (parts.next ≡ at + size r)
      around_ends s r b =
          let f = (shape s r b).is_first in
          let q = parts_passed s r b in
          (omega (arith, f, p.ends, q.ends), omega (arith, f, q.from, size_parts r))

      -- ---- targets

      pub target_done : (kind : TargetKind) → k ≡ target_number kind → Done w u at top parts
      target_done kind l = record {
        frame = same_top;
        right = λ s r b. by_sort (λ s r. Below w at top s r → Passed u at top parts s r)
            (λ r v b. absurd (omega (arith, l, target_above kind, expr_kind_lem r v, (shape sort.Expr r b).is_kind)))
            (go sort.Target (λ r. refl) (λ r. refl)) (go sort.Single (λ r. refl) (λ r. refl)) s r b.part
            b.valid b;
      }
        where
          go : (s : Sort) → ((r : Rose) → passed s r ≡ passed sort.Target r)
              → ((r : Rose) → places s r ≡ places sort.Target r)
              → (r : Rose) → Valid sort.Target r → Below w at top s r → Passed u at top parts s r
          go s x y r v b =
              let kind = (shape s r b).is_kind in
              let same : around (inner k) r ≡ passed s r =
              ap (λ (j : ℕ). around (inner j) r) kind ∙ sym (target_made r v) ∙ sym (x r) in
              let sum : places s r ≡ places_all (inner k) (parts_of r) =
              y r ∙ target_count r v ∙ ap (λ (j : ℕ). places_all (inner j) (parts_of r)) (sym kind) in
              let ends = around_ends s r b in
              record {
                from = ends.1;
                here = subst (At u top) same (around_at s r b);
                ends = ends.0 ∙ ap (λ (q : Rose). top + size q) same;
                met = (parts_passed s r b).met ∙ sym sum;
              }

      -- ---- expressions

      module _ (l : k < 64) where
        -- only an expression stands there
        by_expr : (P : Sort → Rose → Type 0)
            → ((r : Rose) → Valid sort.Expr r → Below w at top sort.Expr r → P sort.Expr r)
            → (s : Sort) (r : Rose) → Below w at top s r → P s r
        by_expr P f s r b =
            by_sort (λ s r. Below w at top s r → P s r) f
            (λ r v b. absurd (omega (arith, target_kind r v, (shape sort.Target r b).is_kind)))
            (λ r v b. absurd (omega (arith, target_kind r v, (shape sort.Single r b).is_kind))) s r b.part
            b.valid b

        -- the node with its parts passed stands at top
        module _ (r : Rose) (good : Valid sort.Expr r) (b : Below w at top sort.Expr r) where
          inner_is : inner k ≡ sort.Expr
          inner_is = inner_expr k l

          plain_at : At u top (around sort.Expr r)
          plain_at = subst (λ (s : Sort). At u top (around s r)) inner_is (around_at sort.Expr r b)

          plain_ends : parts.end ≡ top + size (around sort.Expr r)
          plain_ends =
              (around_ends sort.Expr r b).0 ∙ ap (λ (s : Sort). top + size (around s r)) inner_is

          plain_met : parts.foldable ≡ places_all sort.Expr (parts_of r)
          plain_met =
              (parts_passed sort.Expr r b).met ∙ ap (λ (s : Sort). places_all s (parts_of r)) inner_is

          plain_size : size (around sort.Expr r) ≤ weight r
          plain_size =
              omega (arith, passed_sizes sort.Expr refl (parts_of r) 0 (expr_parts r good), node_weight r)

          plain_is : Is u top parts.end (expr_of (around sort.Expr r))
          plain_is =
              let q = around sort.Expr r in
              let valid = expr_valid r good in
              let back = sym (rose_expr q valid) in
              record {
                valid = (proper_expr q valid, subst (Valid sort.Expr) back valid);
                here = subst (At u top) back plain_at;
                ends = plain_ends ∙ ap (λ (x : Rose). top + size x) back;
              }

        module _ (a : Ask w at top) (e : length u ≡ length v) where
          plain_inside : (r : Rose) → Valid sort.Expr r → Below w at top sort.Expr r
              → top + expr_room (weight r) ≤ length w → top + size (around sort.Expr r) ≤ length u
          plain_inside r good b room = omega (arith, plain_size r good b, room, e, p.long)

          -- its numbers are the node's, with the first part at body
          node_there : NodeOf u top k d x body n
          node_there =
              by_expr (λ s r. top + expr_room (weight r) ≤ length w → NodeOf u top k d x body n)
              (λ r good b room.
              let h = shape sort.Expr r b in
              node_same
              (record {
                sort = sort.Expr;
                node = refl;
                tree = around sort.Expr r;
                valid = expr_valid r good;
                here = plain_at r good b;
                inside = plain_inside r good b room;
              })
              (record {
                is_kind = h.is_kind;
                is_detail = h.is_detail;
                is_word = h.is_word;
                is_first = omega (arith, h.is_first, p.ends);
                is_count = h.is_count ∙ sym (passed_many sort.Expr (parts_of r));
              }))
              a.sort a.tree a.is a.room

          expr_there : SomeExpr u top
          expr_there =
              by_expr (λ s r. top + expr_room (weight r) ≤ length w → SomeExpr u top)
              (λ r good b room. record {
                tree = around sort.Expr r;
                valid = expr_valid r good;
                here = plain_at r good b;
                inside = plain_inside r good b room;
              })
              a.sort a.tree a.is a.room

          plain_there : Plain wholes u top parts.end
          plain_there =
              by_expr (λ s r. top + expr_room (weight r) ≤ length w → Plain wholes u top parts.end)
              (λ r good b room. record {
                parts = expr_of (around sort.Expr r);
                is = plain_is r good b;
                inside = omega (arith, plain_inside r good b room, plain_ends r good b);
              })
              a.sort a.tree a.is a.room

          pub folds_ask : SomeExpr u top × NodeOf u top k d x body n
          folds_ask = (expr_there, node_there)

          -- no foldable place
          no_place : 7 ≤ k → k ≤ 13 → (k ≡ 10 → ⊥) → (k ≡ 11 → ⊥) → BoolOf folds_here u top false
          no_place low high slice builtin =
              other_way node_there (λ q. omega arith) (λ q. omega arith) (λ q. omega arith)
              (simp (ne_eqb k 11 builtin, ne_eqb k 10 slice, lt-leb 14 k (omega arith)))

          -- a list or a dict stays
          display_made : within 7 8 k ≡ true → Made wholes remade u u top parts.end parts.end
          display_made h =
              let low = within_low 7 8 k h in
              let high = within_high 7 8 k h in
              let builtin = ne_eqb k 11 (λ q. omega arith) in
              whole_stays plain_there node_there (simp builtin) (simp builtin) (simp (lt-leb 12 k (omega arith)))
              (λ q. omega arith)

          -- it goes to `pair` or to `make`
          pub handed : {kind : ExprKind} → expr_number kind ≡ k
              → Handed wholes u (record {
                at = top;
                node = record { kind = kind; detail = d; word = x; first = body; count = n };
                end = parts.end;
              })
          handed q = record {
            plain = plain_there;
            node_of = subst (λ (j : ℕ). NodeOf u top j d x body n) (sym q) node_there;
          }

        module _ {here : Bool} (h : BoolOf folds_here u top here) where
          -- the places counted
          counted : (r : Rose) → Valid sort.Expr r → Below w at top sort.Expr r
              → parts.foldable + bit_of here ≡ places sort.Expr r
          counted r good b =
              let q = h.of (around sort.Expr r) (expr_valid r good) (plain_at r good b) in
              ap₂ (λ (i : ℕ) (x : Bool). i + bit_of x) (plain_met r good b) q ∙ sym (expr_count r good)

          pub place_sum : Ask w at top → parts.foldable + bit_of here ≤ length w
          place_sum a =
              by_expr (λ s r. top ≤ length w → parts.foldable + bit_of here ≤ length w)
              (λ r good b inside.
              omega (arith, counted r good b, places_size sort.Expr r refl good, b.below, inside))
              a.sort a.tree a.is (omega (arith, a.room))

          pub expr_done : (k ≡ 9 → ⊥) → {z : List ℕ} {end : ℕ} → Made wholes remade u z top parts.end end
              → Done w z at top
              (record { next = parts.next; end = end; foldable = parts.foldable + bit_of here })
          expr_done no-if {z} {end} g = record {
            frame = same_trans same_top g.below;
            right = by_expr (Passed z at top
                (record { next = parts.next; end = end; foldable = parts.foldable + bit_of here }))
                (λ r good b.
                let made = g.right (expr_of (around sort.Expr r)) (plain_is r good b) in
                let same = sym (expr_made r good (λ q. no-if ((shape sort.Expr r b).is_kind ∙ q))) in
                record {
                  from = (around_ends sort.Expr r b).1;
                  here = subst (λ (x : Expr). At z top (rose_e x)) same made.here;
                  ends = made.ends ∙ ap (λ (x : Expr). top + size (rose_e x)) same;
                  met = counted r good b;
                });
          }

        -- with no place counted
        rest_done : BoolOf folds_here u top false → (k ≡ 9 → ⊥) → {z : List ℕ} {end : ℕ}
            → Made wholes remade u z top parts.end end
            → Done w z at top (record { next = parts.next; end = end; foldable = parts.foldable })
        rest_done h no-if {z} {end} g =
            subst (λ (i : ℕ). Done w z at top (record { next = parts.next; end = end; foldable = i })) (omega arith)
            (expr_done h no-if g)

      -- ---- by the kind

      module _ (a : Ask w at top) (e : length u ≡ length v) where
        -- a list or a dict stays as it is
        pub display_done : within 7 8 k ≡ true → Done w u at top parts
        display_done f =
            let low = within_low 7 8 k f in
            let high = within_high 7 8 k f in
            let l : k < 64 = omega arith in
            rest_done l (no_place l a e low (omega arith) (λ q. omega arith) (λ q. omega arith)) (λ q. omega arith)
            (display_made l a e f)

        -- And, Or and Seq
        pub pair_done : within 12 13 k ≡ true → {z : List ℕ} {end : ℕ} → Made wholes remade u z top parts.end end
            → Done w z at top (record { next = parts.next; end = end; foldable = parts.foldable })
        pair_done f g =
            let low = within_low 12 13 k f in
            let high = within_high 12 13 k f in
            let l : k < 64 = omega arith in
            rest_done l (no_place l a e (omega arith) high (λ q. omega arith) (λ q. omega arith)) (λ q. omega arith) g

-- what the check applies in `optimize_node`
pub ruleset steps = (parts_ask, size_parts, rose_weight, no_list, own_some)
