-- What each way of `part_at`, `binary_folds` and `folds` answers is so of whatever expression stands there. For other
-- crates: `lead_at`, the first word of the first of some parts, and `lead_is`, of a node's, which a call has by
-- `call_some`.
-- Assumes nothing.
use mathlib.Core.Bool.{Bool, true, false, not, cond, ◌&&◌}
use mathlib.Core.List.{List, [], ◌∷◌}
use mathlib.Core.Path.{◌≡◌, refl, ap, ap₂, sym, subst, ◌∙◌}
use Prim.Native.Nat.{ℕ, ◌+◌, ◌-◌, ◌≤◌, ◌<◌}
use native.Mathlib.Omega.{arith}
use borrow.Author.Tests.{ne_eqb, eqb-true, eqb-false}
use lib.Dec.{eqb}
use lib.ListN.{length, get_or}
use Rattle.spec.specs.Rose.{Rose, Roses, node, nil, cons, size, sizes, At, Ats, parts_of}
use Rattle.spec.specs.Rose.{count as countR}
use Rattle.spec.specs.Grammar.{kind_in, detail_in, part_count, Valid}
use Rattle.spec.specs.Meaning.{expr_of, exprs_of, part_e}
use Rattle.spec.specs.Proper.{is_operator}
use Rattle.spec.specs.Views.{word_in, kind_of, detail_of, lead_of}
use Rattle.spec.specs.Foldable.{part_of, constant_part, all_constant}
use Rattle.spec.specs.declared.Sort.TheVariants as sort
use Rattle.spec.proofs.Outcomes.{by_test, both}
use Rattle.spec.proofs.Heads.{Operator, slice, builtin1, builtin2, index2, operator_view}
use Rattle.spec.proofs.Meanings.{expr_parts}
use Rattle.ir.specs.Standing.{SomeExpr, SomeExprs, SomeNode, SomeNodeOf, NodeOf, ValidExprs, SkipOf}
use Rattle.ir.proofs.Forests.{from, size_parts}
use Rattle.ir.proofs.Nodes.{node_of, some_of, leaf_of}
use Rattle.tables.specs.Payload.{const_count}
use Rattle.tables.proofs.Payloads.{one_pay}
use Rattle.purity.specs.Told.{BoolOf}
use Rattle.purity.proofs.Parts.{no_parts, shape, parts_by, parts_at}
use Rattle.foldable.specs.declared.Part.{Part}
use Rattle.foldable.specs.Places.{PartDone, folds_here, part_for, part_by, call_by, joins, binary_by, BinaryOf}
use Rattle.foldable.specs.Places.{is_short, AllOf}
use Rattle.foldable.proofs.Tables.{left_alone, binary_table}
use Rattle.foldable.proofs.Numbers.{folds_with, part_words, const_words_lem, folds_words}

-- ---- the first part

-- its first word
pub lead_at : (ws : List ℕ) (first : ℕ) (ps : Roses) → ValidExprs ps → Ats ws first ps → 1 ≤ countR ps
    → get_or ws first 0 ≡ lead_of ps
lead_at ws first nil v a m = absurd (omega arith)
lead_at ws first (cons (node t [] qs) ps) v a m = absurd v.0.1
lead_at ws first (cons (node t (h ∷ pay) qs) ps) v a m = a.0.0.0

-- whether it is a constant
const_first : (ps : Roses) → ValidExprs ps → 1 ≤ countR ps
    → constant_part (part_of (part_e 0 (exprs_of ps))) ≡ eqb (kind_in (lead_of ps)) 1
unfolding exprs_of
const_first nil v m = absurd (omega arith)
const_first (cons p ps) v m = const_words_lem p v.0

-- every operator has one
operator_some : {k d : ℕ} → Operator k d → (w : ℕ) → 1 ≤ part_count k d w
operator_some slice w = omega arith
operator_some (builtin1 u v) w = omega arith
operator_some builtin2 w = omega arith
operator_some index2 w = omega arith

-- ---- from a node's numbers

module _ {ws : List ℕ} {at k d w first n : ℕ} (o : NodeOf ws at k d w first n) where
  module _ (r : Rose) (v : Valid sort.Expr r) (a : At ws at r) where
    pub lead_is : 1 ≤ part_count k d w → get_or ws first 0 ≡ lead_of (parts_of r)
    lead_is m = lead_at ws first (parts_of r) (expr_parts r v) (parts_at o r v a) (omega (arith, parts_by o r v a))

    -- the place by the node's numbers
    folds_by_lem : folds_here (expr_of r) ≡ folds_with k d w (lead_of (parts_of r)) (exprs_of (parts_of r))
    folds_by_lem =
        let h = shape o r v a in
        folds_words r v
        ∙ ap₂ (λ (x y : ℕ). folds_with x y (word_in r 1) (lead_of (parts_of r)) (exprs_of (parts_of r))) (sym h.is_kind)
        (sym h.is_detail)
        ∙ ap (λ (x : ℕ). folds_with k d x (lead_of (parts_of r)) (exprs_of (parts_of r))) (sym h.is_word)

  pub call_some : k ≡ 16 → 1 ≤ part_count k d w
  call_some e = subst (λ (x : ℕ). 1 ≤ part_count x d w) (sym e) (omega arith)

  -- only of a call does a part look at the first word of its first part
  other_lead : (x y : ℕ) → (k ≡ 16 → x ≡ y) → part_by k d w x ≡ part_by k d w y
  other_lead x y same =
      by_test _ (eqb k 16) (λ e. ap (part_by k d w) (same (eqb-true k 16 e))) (λ e. simp e)

  pub part_way : {lead : ℕ} {x : Part} → lead ≡ get_or ws first 0 → x ≡ part_by k d w lead → PartDone ws at x
  part_way {lead} l e = record {
    right = λ r v a.
        let h = shape o r v a in
        e ∙ other_lead lead (lead_of (parts_of r)) (λ f. l ∙ lead_is r v a (call_some f))
        ∙ ap₂ (λ (i j : ℕ). part_by i j w (lead_of (parts_of r))) h.is_kind h.is_detail
        ∙ ap (λ (i : ℕ). part_by (kind_of r) (detail_of r) i (lead_of (parts_of r))) h.is_word
        ∙ sym (part_words r v);
  }

  -- ---- the ways of `folds`

  pub parts_some : SomeExpr ws at → SomeExprs ws first n
  parts_some x =
      let h = shape o x.tree x.valid x.here in
      record {
        trees = parts_of x.tree;
        valid = expr_parts x.tree x.valid;
        here = parts_at o x.tree x.valid x.here;
        many = h.is_count;
        inside = omega (arith, h.is_first, size_parts x.tree, x.inside);
      }

  pub two_some : k ≡ 14 → SomeExpr ws at → SomeExprs ws first 2
  two_some e x =
      let m : n ≡ 2 = (shape o x.tree x.valid x.here).is_count ∙ parts_by o x.tree x.valid x.here
      ∙ ap (λ (i : ℕ). part_count i d w) e in
      subst (SomeExprs ws first) m (parts_some x)

  pub tuple_way : {b : Bool} → k ≡ 6 → AllOf ws first n b → BoolOf folds_here ws at b
  tuple_way e q = record {
    of = λ r v a.
        q.of (parts_of r) (expr_parts r v) (parts_at o r v a) (shape o r v a).is_count
        ∙ sym (folds_by_lem r v a
        ∙ ap (λ (i : ℕ). folds_with i d w (lead_of (parts_of r)) (exprs_of (parts_of r))) e);
  }

  pub binary_way : {b : Bool} → k ≡ 14 → BinaryOf ws first d b → BoolOf folds_here ws at b
  unfolding exprs_of
  binary_way {b} e q = record {
    of = λ r v a.
        go (parts_of r) (expr_parts r v) (parts_at o r v a) (parts_by o r v a ∙ ap (λ (i : ℕ). part_count i d w) e)
        ∙ sym (folds_by_lem r v a
        ∙ ap (λ (i : ℕ). folds_with i d w (lead_of (parts_of r)) (exprs_of (parts_of r))) e);
  }
    where
      go : (ps : Roses) → ValidExprs ps → Ats ws first ps → countR ps ≡ 2
          → b ≡ folds_with 14 d w (lead_of ps) (exprs_of ps)
      go nil v a m = absurd (omega arith)
      go (cons x nil) v a m = absurd (omega arith)
      go (cons x (cons y ps)) v a m = q.of x y v.0 v.1.0 a.0 a.1.0

  pub call_way : {lead : ℕ} {b : Bool} → k ≡ 16 → lead ≡ get_or ws first 0 → b ≡ call_by lead d w
      → BoolOf folds_here ws at b
  call_way e l f = record {
    of = λ r v a.
        f ∙ ap (λ (i : ℕ). call_by i d w) (l ∙ lead_is r v a (call_some e))
        ∙ sym (folds_by_lem r v a
        ∙ ap (λ (i : ℕ). folds_with i d w (lead_of (parts_of r)) (exprs_of (parts_of r))) e);
  }

  -- every other kind
  module _ (k6 : k ≡ 6 → ⊥) (k14 : k ≡ 14 → ⊥) (k16 : k ≡ 16 → ⊥) where
    pub operator_way : {b : Bool} → is_operator k d ≡ true → b ≡ eqb (kind_in (get_or ws first 0)) 1
        → BoolOf folds_here ws at b
    operator_way t f =
        let m = operator_some (operator_view k d t) w in
        record {
          of = λ r v a.
              f ∙ ap (λ (h : ℕ). eqb (kind_in h) 1) (lead_is r v a m)
              ∙ sym (const_first (parts_of r) (expr_parts r v) (omega (arith, m, parts_by o r v a)))
              ∙ sym (folds_by_lem r v a ∙ simp (ne_eqb k 6 k6, ne_eqb k 14 k14, ne_eqb k 16 k16, t));
        }

    pub other_way : is_operator k d ≡ false → BoolOf folds_here ws at false
    other_way t = record {
      of = λ r v a. sym (folds_by_lem r v a ∙ simp (ne_eqb k 6 k6, ne_eqb k 14 k14, ne_eqb k 16 k16, t));
    }

-- ---- the two parts of a Builtin2

module _ {ws : List ℕ} {at : ℕ} (x : SomeExprs ws at 2) where
  pub left_some : SomeExpr ws at
  left_some = go x.trees x.valid x.here x.many x.inside
    where
      go : (ps : Roses) → ValidExprs ps → Ats ws at ps → 2 ≡ countR ps → at + sizes ps ≤ length ws → SomeExpr ws at
      go nil v a m i = absurd (omega arith)
      go (cons p ps) v a m i = record { tree = p; valid = v.0; here = a.0; inside = omega arith }

  pub one_some : SomeExprs ws at 1
  one_some =
      let p = left_some in
      record {
        trees = cons p.tree nil;
        valid = (p.valid, tt);
        here = (p.here, tt);
        many = refl;
        inside = omega (arith, p.inside);
      }

  pub right_some : {middle : ℕ} → SkipOf ws at 1 middle → SomeExpr ws middle
  right_some {middle} q = go x.trees x.valid x.here x.many x.inside
    where
      go : (ps : Roses) → ValidExprs ps → Ats ws at ps → 2 ≡ countR ps → at + sizes ps ≤ length ws → SomeExpr ws middle
      go nil v a m i = absurd (omega arith)
      go (cons p nil) v a m i = absurd (omega arith)
      go (cons p (cons y ps)) v a m i =
          let e : middle ≡ at + (size p + 0) = q.of (cons p nil) (v.0, tt) (a.0, tt) refl in
          let f : at + size p ≡ middle = omega arith in
          record {
            tree = y;
            valid = v.1.0;
            here = subst (λ (j : ℕ). At ws j y) f a.1.0;
            inside = omega arith;
          }

module _ {ws : List ℕ} {at d : ℕ} {left : Part} (p : PartDone ws at left) where
  pub both_way : {middle : ℕ} {right : Part} {b : Bool} → SkipOf ws at 1 middle → PartDone ws middle right
      → b ≡ binary_by d left right → BinaryOf ws at d b
  both_way {middle} q t e = record {
    of = λ x y vx vy ax ay.
        let f : middle ≡ at + (size x + 0) = q.of (cons x nil) (vx, tt) (ax, tt) refl in
        let g : at + size x ≡ middle = omega arith in
        e ∙ ap₂ (binary_by d) (p.right x vx ax) (t.right y vy (subst (λ (j : ℕ). At ws j y) g ay))
        ∙ sym (binary_table d (part_of (expr_of x)) (part_of (expr_of y)));
  }

  pub left_way : joins d left ≡ false → BinaryOf ws at d false
  left_way e = record {
    of = λ x y vx vy ax ay.
        sym (binary_table d (part_of (expr_of x)) (part_of (expr_of y))
        ∙ left_alone d (part_for (part_of (expr_of x))) (part_for (part_of (expr_of y)))
        (ap (joins d) (sym (p.right x vx ax)) ∙ e));
  }

-- what the check applies in `folds` and in `binary_folds`
pub ruleset by_kind = (parts_some, two_some, tuple_way, binary_way, call_way, operator_way, other_way)

pub ruleset two_parts = (left_some, one_some, right_some, both_way, left_way)

-- ---- the parts of a Tuple, one by one

-- of the parts ps from `first` on, the last `left` stand from `next` on, and all before are constants
pub record Left (ws : List ℕ) (first : ℕ) (ps : Roses) (next left : ℕ) : Type 0 where
  pub parts : Roses
  pub valid : ValidExprs parts
  pub many : left ≡ countR parts
  pub here : Ats ws next parts
  pub so : all_constant (exprs_of ps) ≡ all_constant (exprs_of parts)
  pub ends : next + sizes parts ≡ first + sizes ps

-- the invariant of both loops, for all n expressions that stand from `first` on
pub record Inv (ws : List ℕ) (first n next i : ℕ) : Type 0 where
  pub within : i ≤ n
  pub all : (ps : Roses) → ValidExprs ps → Ats ws first ps → n ≡ countR ps → Left ws first ps next (n - i)

pub inv_start : (ws : List ℕ) (first n : ℕ) → Inv ws first n first 0
inv_start ws first n = record {
  within = omega arith;
  all = λ ps v a m.
      record { parts = ps; valid = v; many = omega arith; here = a; so = refl; ends = refl };
}

pub inv_asks : {ws : List ℕ} {first n next i : ℕ} → i < n → SomeExprs ws first n → Inv ws first n next i
    → SomeNode ws next
inv_asks {ws} {first} {n} {next} {i} h x v =
    let l = v.all x.trees x.valid x.here x.many in
    go l.parts l.valid l.many l.here l.ends
  where
    go : (ps : Roses) → ValidExprs ps → n - i ≡ countR ps → Ats ws next ps → next + sizes ps ≡ first + sizes x.trees
        → SomeNode ws next
    go nil v m a e = absurd (omega arith)
    go (cons p ps) v m a e =
        record {
          sort = sort.Expr;
          node = refl;
          tree = p;
          valid = v.0;
          here = a.0;
          inside = omega (arith, x.inside);
        }

module _ {ws : List ℕ} {first n next i k d w then' c : ℕ} (h : i < n) (q : Inv ws first n next i)
    (o : NodeOf ws next k d w then' c) where
  -- a part that is no constant
  pub inv_none : (k ≡ 1 → ⊥) → AllOf ws first n false
  unfolding exprs_of
  inv_none u = record {
    of = λ ps v a m.
        let l = q.all ps v a m in
        sym (l.so ∙ go l.parts l.valid l.many l.here);
  }
    where
      go : (ps : Roses) → ValidExprs ps → n - i ≡ countR ps → Ats ws next ps → all_constant (exprs_of ps) ≡ false
      go nil v m a = absurd (omega arith)
      go (cons p ps) v m a =
          let e = const_words_lem p v.0
          ∙ ap (λ (j : ℕ). eqb j 1) (sym (o.of sort.Expr p refl v.0 a.0).is_kind) ∙ ne_eqb k 1 u in
          simp e

  -- a constant: one part on
  pub inv_step : k ≡ 1 → Inv ws first n then' (i + 1)
  unfolding exprs_of
  inv_step e = record {
    within = omega arith;
    all = λ ps v a m. let l = q.all ps v a m in go ps l.parts l.valid l.many l.here l.so l.ends;
  }
    where
      go : (qs ps : Roses) → ValidExprs ps → n - i ≡ countR ps → Ats ws next ps
          → all_constant (exprs_of qs) ≡ all_constant (exprs_of ps)
          → next + sizes ps ≡ first + sizes qs → Left ws first qs then' (n - (i + 1))
      go qs nil v m a f z = absurd (omega arith)
      go qs (cons p ps) v m a f z =
          let g = o.of sort.Expr p refl v.0 a.0 in
          let t = const_words_lem p v.0 ∙ ap (λ (j : ℕ). eqb j 1) (sym g.is_kind ∙ e) in
          let none : sizes (parts_of p) ≡ 0 = no_parts (parts_of p) (parts_by o p v.0 a.0
          ∙ ap (λ (j : ℕ). part_count j d w) e) in
          let then_is : next + size p ≡ then' = omega (arith, g.is_first, size_parts p) in
          record {
            parts = ps;
            valid = from 1 0 ps v.1;
            many = omega arith;
            here = subst (λ (j : ℕ). Ats ws j ps) then_is a.1;
            so = f ∙ ap (λ (b : Bool). b && all_constant (exprs_of ps)) t;
            ends = omega arith;
          }

-- no part is left
pub inv_stop : {ws : List ℕ} {first n next i : ℕ} → n ≤ i → Inv ws first n next i → AllOf ws first n true
unfolding exprs_of
inv_stop {n = n} {i = i} h q =
    record { of = λ ps v a m. let l = q.all ps v a m in sym (l.so ∙ go l.parts l.many) }
  where
    go : (ps : Roses) → n - i ≡ countR ps → all_constant (exprs_of ps) ≡ true
    go nil m = refl
    go (cons p ps) m = absurd (omega arith)

-- ---- one turn, at the word that stands next

-- a constant's header: its kind is 1, and its class has one payload word, or two
const_head : (h : ℕ) → kind_in h ≡ 1 → 1 + const_count (detail_in h) ≡ cond (is_short h) 2 3
const_head h e =
    by_test _ (eqb h 1537)
    (λ s. subst (λ (i : ℕ). 1 + const_count (detail_in i) ≡ cond (is_short i) 2 3) (sym (eqb-true h 1537 s)) refl)
    (λ s. ap (λ (c : ℕ). 1 + c) (one_pay h e (eqb-false h 1537 s))
    ∙ ap₂ (λ (a b : Bool). cond (a && not b) 2 3) (sym (ap (λ (k : ℕ). eqb k 1) e)) (sym s))

module _ {ws : List ℕ} {first n next i h : ℕ} (x : SomeExprs ws first n) (l : i < n) (q : Inv ws first n next i)
    (eh : h ≡ get_or ws next 0) where
  pub turn_none : eqb (kind_in h) 1 ≡ false → AllOf ws first n false
  turn_none e =
      inv_none l q (node_of (some_of (inv_asks l x q) eh refl refl) refl refl refl) (eqb-false (kind_in h) 1 e)

  pub turn_step : {own : ℕ} → eqb (kind_in h) 1 ≡ true → own ≡ cond (is_short h) 2 3
      → Inv ws first n (next + own) (i + 1)
  turn_step {own} e f =
      let constant = eqb-true (kind_in h) 1 e in
      let read : SomeNodeOf ws next 1 (detail_in h) = some_of (inv_asks l x q) eh (sym constant) refl in
      inv_step l q (leaf_of read refl refl (omega (arith, f, const_head h constant))) refl

  pub turn_short : is_short h ≡ true → Inv ws first n (next + 2) (i + 1)
  turn_short s =
      let one = (both (eqb (kind_in h) 1) (not (eqb h 1537)) s).0 in
      turn_step one (sym (ap (λ (b : Bool). cond b 2 3) s))
