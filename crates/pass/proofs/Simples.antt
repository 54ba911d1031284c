-- Statements that stay, with their own words and their parts optimized.
-- Assumes nothing.
use mathlib.Core.Bool.{Bool, true, false, ◌||◌}
use mathlib.Core.List.{List}
use mathlib.Core.Logic.{inr}
use mathlib.Core.Path.{◌≡◌, refl, ap, sym, subst, ◌∙◌}
use Prim.Native.Nat.{ℕ, ◌+◌, ◌*◌, ◌≤◌}
use native.Mathlib.Omega.{arith}
use lib.Dec.{eqb, leb}
use lib.ListN.{length}
use Rattle.spec.specs.Rose.{Rose, node, nil, cons, size, sizes, Words, At, Ats, own_of, parts_of}
use Rattle.spec.specs.Rose.{count as countR}
use Rattle.spec.specs.Tree.{Expr, Target, rose_e, rose_t, rose_s}
use Rattle.spec.specs.Tree.{Stmt, possible_gc, break, continue, return, expr, assign, assign_modify, if_stmt, for}
use Rattle.spec.specs.Pass.{optimize_expr, optimize_target}
use Rattle.spec.specs.PassStmts.{one, is_exit, is_terminal, optimize_stmt}
use Rattle.spec.specs.Foldable.{foldable_stmt}
use Rattle.spec.specs.Views.{kind_of}
use Rattle.spec.specs.Weight.{weight, weights, expr_room}
use Rattle.spec.proofs.Heads.{kind_of_header}
use Rattle.spec.proofs.Targets.{single_target}
use Rattle.spec.proofs.Weights.{rose_weight}
use Rattle.spec.proofs.Places.{words_move}
use Rattle.spec.proofs.PassedStmts.{modify_parts}
use Rattle.spec.specs.declared.Sort.TheVariants as sort
use Rattle.tables.specs.Kinds.{stmt_number}
use Rattle.tables.specs.declared.stmts.StmtKind.{StmtKind}
use Rattle.ir.specs.Standing.{SomeStmt, Shape}
use Rattle.ir.specs.declared.tree.Node.{Node}
use Rattle.buffer.specs.Copy.{PutAsk, PutDone}
use Rattle.buffer.proofs.Frames.{same_refl, same_trans, same_less, same_agree, same_ats}
use Rattle.optimize.specs.Passed.{Ask, Done}
use Rattle.optimize.specs.declared.Optimized.{Optimized}
use Rattle.runs.specs.Held.{Holds}
use Rattle.pass.specs.Pruned.{ExprBelow, PairBelow, PairAsk, PairMade, PairDone, is_simple, simplified}
use Rattle.pass.specs.Pruned.{PartsBelow, PartsAsk, PartsMade, PartsDone, StmtRoom, StmtDone, Simple}
use Rattle.pass.specs.declared.Pair.{Pair}
use Rattle.pass.proofs.Singles.{expr_below, expr_passed, stmt_every}

-- ---- a simple statement by how many parts it has

clash : {A : Type 0} → false ≡ true → A
clash p = let z : ◌≡◌ {A = ℕ} 0 1 = cc in absurd (omega arith)

module _ (P : Stmt → Type 0) where
  case_none : P possible_gc → P break → P continue → (s : Stmt) → is_simple s ≡ true
      → 0 ≡ countR (parts_of (rose_s s)) → P s
  case_none f g h possible_gc i n = f
  case_none f g h break i n = g
  case_none f g h continue i n = h
  case_none f g h (return e) i n = absurd (omega (arith, n))
  case_none f g h (expr e) i n = clash i
  case_none f g h (assign w t e) i n = absurd (omega (arith, n))
  case_none f g h (assign_modify op t e) i n = absurd (omega (arith, n))
  case_none f g h (if_stmt c t e) i n = clash i
  case_none f g h (for t e b) i n = clash i

  case_one : ((e : Expr) → P (return e)) → (s : Stmt) → is_simple s ≡ true → 1 ≡ countR (parts_of (rose_s s)) → P s
  case_one f possible_gc i n = absurd (omega (arith, n))
  case_one f break i n = absurd (omega (arith, n))
  case_one f continue i n = absurd (omega (arith, n))
  case_one f (return e) i n = f e
  case_one f (expr e) i n = clash i
  case_one f (assign w t e) i n = absurd (omega (arith, n))
  case_one f (assign_modify op t e) i n = absurd (omega (arith, n))
  case_one f (if_stmt c t e) i n = clash i
  case_one f (for t e b) i n = clash i

  case_two : ((w : ℕ) (t : Target) (e : Expr) → P (assign w t e))
      → ((op : ℕ) (t : Target) (e : Expr) → P (assign_modify op t e)) → (s : Stmt) → is_simple s ≡ true
      → 2 ≤ countR (parts_of (rose_s s)) → P s
  case_two f g possible_gc i n = absurd (omega (arith, n))
  case_two f g break i n = absurd (omega (arith, n))
  case_two f g continue i n = absurd (omega (arith, n))
  case_two f g (return e) i n = absurd (omega (arith, n))
  case_two f g (expr e) i n = clash i
  case_two f g (assign w t e) i n = f w t e
  case_two f g (assign_modify op t e) i n = g op t e
  case_two f g (if_stmt c t e) i n = clash i
  case_two f g (for t e b) i n = clash i

-- ---- the parts

-- a target and the expression behind it
pair_at : {v : List ℕ} {at top : ℕ} {r : Pair} (t : Target) (e : Expr) → PairMade v at top r t e
    → Ats v top (cons (rose_t (optimize_target t)) (cons (rose_e (optimize_expr e)) nil))
pair_at {v} t e p =
    (p.target_here, (subst (λ (i : ℕ). At v i (rose_e (optimize_expr e))) p.parted p.value_here, tt))

-- what is made of no parts
abbrev none_made : ℕ → ℕ → Optimized
none_made at top = record { next = at; end = top; foldable = 0 }

module _ {w : List ℕ} {at count top : ℕ} where
  return_part : (e : Expr) → PartsBelow w at count top (return e) → ExprBelow w at top e
  return_part e b = record {
    valid = (b.valid.0, b.valid.1.2.0);
    here = b.here.0;
    below = omega (arith, b.below);
  }

  assign_parts : (k : ℕ) (t : Target) (e : Expr) → PartsBelow w at count top (assign k t e) → PairBelow w at top t e
  assign_parts k t e b = record {
    target_valid = (b.valid.0.0, b.valid.1.2.0);
    value_valid = (b.valid.0.1, b.valid.1.2.1.0);
    target_here = b.here.0;
    value_here = b.here.1.0;
    below = omega (arith, b.below);
  }

  modified_parts : (op : ℕ) (t : Target) (e : Expr) → PartsBelow w at count top (assign_modify op t e)
      → PairBelow w at top t e
  modified_parts op t e b =
      let (target, value) = modify_parts op t e b.valid in record {
        target_valid = (target.0, single_target (rose_t t) target.1);
        value_valid = value;
        target_here = b.here.0;
        value_here = b.here.1.0;
        below = omega (arith, b.below);
      }

  pub parts_none : count ≡ 0 → PartsDone w w at count top (none_made at top)
  unfolding foldable_stmt
  parts_none z = record {
    frame = same_refl top w;
    right = λ s b.
        case_none (PartsMade w at top (none_made at top)) gc at_break at_continue s b.simple (sym z ∙ b.many);
  }
    where
      gc : PartsMade w at top (none_made at top) possible_gc
      gc = record { from = omega arith; here = tt; ends = omega arith; met = refl }

      at_break : PartsMade w at top (none_made at top) break
      at_break = record { from = omega arith; here = tt; ends = omega arith; met = refl }

      at_continue : PartsMade w at top (none_made at top) continue
      at_continue = record { from = omega arith; here = tt; ends = omega arith; met = refl }

  module _ {tree : Stmt} (are : PartsBelow w at count top tree)
      (room : top + expr_room (weights (parts_of (rose_s tree))) ≤ length w) where
    module _ (is_one : count ≡ 1) where
      pub parts_one : Ask w at top
      parts_one =
          case_one
          (λ s. PartsBelow w at count top s → top + 4 * weights (parts_of (rose_s s)) ≤ length w → Ask w at top)
          (λ e b l. record {
            sort = sort.Expr;
            tree = rose_e e;
            is = expr_below top (omega arith) (return_part e b);
            room = omega (arith, l);
          })
          tree are.simple (sym is_one ∙ are.many) are room

      pub parts_one_done : {v : List ℕ} {o : Optimized} → Done w v at top o
          → PartsDone w v at count top o
      unfolding foldable_stmt
      parts_one_done {v} {o} d = record {
        frame = d.frame;
        right = λ s b.
            case_one (λ s. PartsBelow w at count top s → PartsMade v at top o s)
            (λ e q.
            let x = return_part e q in
            let p = expr_passed e x.valid (d.right sort.Expr (rose_e e) (expr_below top (omega arith) x)) in
            record {
              from = omega (arith, p.from);
              here = (p.here, tt);
              ends = omega (arith, p.ends);
              met = p.met;
            })
            s b.simple (sym is_one ∙ b.many) b;
      }

    module _ (is_two : 2 ≤ count) where
      both : (s : Stmt) → PartsBelow w at count top s → 2 ≤ countR (parts_of (rose_s s))
      both s b = omega (arith, is_two, b.many)

      pub parts_two : PairAsk w at top
      parts_two =
          case_two
          (λ s. PartsBelow w at count top s → top + 4 * weights (parts_of (rose_s s)) ≤ length w → PairAsk w at top)
          (λ k t e b l. record { target = t; value = e; are = assign_parts k t e b; room = omega (arith, l) })
          (λ op t e b l. record { target = t; value = e; are = modified_parts op t e b; room = omega (arith, l) })
          tree are.simple (both tree are) are room

      pub parts_two_done : {v : List ℕ} {p : Pair} → PairDone w v at top p
          → PartsDone w v at count top (record { next = p.next; end = p.end; foldable = p.foldable })
      unfolding foldable_stmt
      parts_two_done {v} {p = pair} d = record {
        frame = d.frame;
        right = λ s b.
            case_two (λ s. PartsBelow w at count top s → PartsMade v at top
            (record { next = pair.next; end = pair.end; foldable = pair.foldable }) s)
            (λ k t e q.
            let p = d.right t e (assign_parts k t e q) in
            record {
              from = omega (arith, p.from);
              here = pair_at t e p;
              ends = omega (arith, p.parted, p.ends);
              met = p.met;
            })
            (λ op t e q.
            let p = d.right t e (modified_parts op t e q) in
            record {
              from = omega (arith, p.from);
              here = pair_at t e p;
              ends = omega (arith, p.parted, p.ends);
              met = p.met;
            })
            s b.simple (both s b) b;
      }

-- ---- the statement

-- it is the whole of what is made, and its own words stay
made_one : (s : Stmt) → is_simple s ≡ true → optimize_stmt s ≡ one (simplified s)
unfolding optimize_stmt
made_one possible_gc i = refl
made_one break i = refl
made_one continue i = refl
made_one (return e) i = refl
made_one (expr e) i = clash i
made_one (assign w t e) i = refl
made_one (assign_modify op t e) i = refl
made_one (if_stmt c t f) i = clash i
made_one (for t e b) i = clash i

own_stays : (s : Stmt) → own_of (rose_s (simplified s)) ≡ own_of (rose_s s)
own_stays possible_gc = refl
own_stays break = refl
own_stays continue = refl
own_stays (return e) = refl
own_stays (expr e) = refl
own_stays (assign w t e) = refl
own_stays (assign_modify op t e) = refl
own_stays (if_stmt c t f) = refl
own_stays (for t e b) = refl

-- kinds 33, 39 and 40 exit
kind_exits : (s : Stmt) → is_simple s ≡ true → (k : ℕ) → k ≡ kind_of (rose_s s)
    → (eqb k 33 || leb 39 k) ≡ is_exit (simplified s)
unfolding is_exit
kind_exits possible_gc i k e = ap (λ (n : ℕ). eqb n 33 || leb 39 n) e
kind_exits break i k e = ap (λ (n : ℕ). eqb n 33 || leb 39 n) e
kind_exits continue i k e = ap (λ (n : ℕ). eqb n 33 || leb 39 n) e
kind_exits (return x) i k e = ap (λ (n : ℕ). eqb n 33 || leb 39 n) e
kind_exits (expr x) i k e = clash i
kind_exits (assign w t x) i k e = ap (λ (n : ℕ). eqb n 33 || leb 39 n) e
kind_exits (assign_modify op t x) i k e =
    ap (λ (n : ℕ). eqb n 33 || leb 39 n) (e ∙ kind_of_header 36 op (omega arith))
kind_exits (if_stmt c t f) i k e = clash i
kind_exits (for t x b) i k e = clash i

-- own words, then parts
at_node : (r : Rose) (w : List ℕ) (a : ℕ) → Words w a (own_of r) → Ats w (a + length (own_of r)) (parts_of r) → At w a r
at_node (node s own ps) w a x y = (x, y)

own_at : (r : Rose) (w : List ℕ) (a : ℕ) → At w a r
    → Words w a (own_of r) × Ats w (a + length (own_of r)) (parts_of r)
own_at (node s own ps) w a h = h

size_own : (r : Rose) → size r ≡ length (own_of r) + sizes (parts_of r)
size_own (node s own ps) = refl

weight_parts : (r : Rose) → weights (parts_of r) ≤ weight r
weight_parts (node s own ps) = omega arith

-- a statement stands there
pub some_stmt : {w : List ℕ} {at top : ℕ} {s : Stmt} → StmtRoom w at top s → SomeStmt w at
some_stmt {s = s} a = record {
  tree = rose_s s;
  valid = a.is.valid.1;
  here = a.is.here;
  inside = omega (arith, a.is.below, a.room);
}

module _ {w : List ℕ} {at top : ℕ} {x : Node StmtKind} {s : Stmt} (a : Simple w at x top s) where
  shape : Shape (rose_s s) at (stmt_number x.kind) x.detail x.word x.first x.count
  shape = a.told.of sort.Stmt (rose_s s) refl a.asked.is.valid.1 a.asked.is.here

  pub simple_put : PutAsk (length w) at x.first top
  simple_put =
      let r = rose_s s in
      let b = a.asked.is.below in
      let l = a.asked.room in
      record {
        order = omega (arith, shape.is_first);
        apart = inr (omega (arith, shape.is_first, size_own r));
        within = omega (arith, shape.is_first, size_own r);
        room = omega (arith, shape.is_first, size_own r, rose_weight r);
      }

  module _ {v : List ℕ} {body : ℕ} (done : PutDone w v at x.first top body) (long : length v ≡ length w) where
    parts_below : PartsBelow v x.first x.count body s
    parts_below =
        let r = rose_s s in
        let b = a.asked.is.below in
        record {
          simple = a.simple;
          valid = a.asked.is.valid;
          here = same_ats (parts_of r) x.first (omega (arith, shape.is_first, size_own r)) done.frame
              (subst (λ (i : ℕ). Ats w i (parts_of r)) (sym shape.is_first) (own_at r w at a.asked.is.here).1);
          many = shape.is_count;
          below = omega (arith, shape.is_first, size_own r, done.ends);
        }

    pub simple_parts : PartsAsk v x.first x.count body
    simple_parts =
        let r = rose_s s in
        let l = a.asked.room in
        record {
          tree = s;
          are = parts_below;
          room = omega (arith, shape.is_first, size_own r, done.ends, rose_weight r, weight_parts r);
        }

    module _ {u : List ℕ} {o : Optimized} (made : PartsDone v u x.first x.count body o) where
      pub simple_done : {exits : Bool} → exits ≡ eqb (stmt_number x.kind) 33 || leb 39 (stmt_number x.kind)
          → StmtDone w u at top (record {
            next = o.next;
            run = record { at = top; end = o.end; count = 1; last = exits };
            foldable = o.foldable;
          })
      unfolding one is_terminal
      simple_done {exits} told =
          let r = rose_s s in
          let t = rose_s (simplified s) in
          let q = made.right s parts_below in
          let own = own_stays s in
          let words = (own_at r w at a.asked.is.here).0 in
          let moved : Words v top (own_of r) =
          words_move (own_of r) words (record { word = λ i h. done.moved.word i (omega (arith, shape.is_first)) }) in
          let stay : Words u top (own_of r) =
          words_move (own_of r) moved (same_agree top (length (own_of r))
          (omega (arith, done.ends, shape.is_first)) made.frame) in
          let long-own : length (own_of t) ≡ length (own_of r) = ap length own in
          let begin : body ≡ top + length (own_of t) = omega (arith, done.ends, shape.is_first) in
          let here : At u top t =
          at_node t u top (subst (Words u top) (sym own) stay)
          (subst (λ (i : ℕ). Ats u i (parts_of t)) begin q.here) in
          record {
            frame = same_trans done.frame (same_less top (omega (arith, done.ends)) made.frame);
            begins = refl;
            right = stmt_every a.asked (record {
              from = omega (arith, q.from, shape.is_first, size_own r);
              holds = subst (Holds u (record { at = top; end = o.end; count = 1; last = exits }))
                  (sym (made_one s a.simple))
                  (record {
                    here = (here, tt);
                    ends = omega (arith, q.ends, begin, size_own t);
                    counts = refl;
                    exits = told ∙ kind_exits s a.simple (stmt_number x.kind) shape.is_kind;
                  });
              met = q.met;
            });
          }
