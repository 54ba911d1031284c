-- The loop of `expr` over the parts of a tuple or a list: the statements of the parts done stand in the run, and the
-- parts left stand where they stood.
-- Assumes nothing.
use mathlib.Core.Bool.{Bool, true}
use mathlib.Core.List.{List}
use mathlib.Core.Path.{◌≡◌, refl, ap, sym, subst, ◌∙◌}
use Prim.Native.Nat.{ℕ, ◌+◌, ◌-◌, ◌≤◌, ◌<◌}
use native.Mathlib.Omega.{arith}
use borrow.Author.Tests.{eqb-true}
use lib.Dec.{eqb}
use lib.ListN.{length}
use Rattle.spec.specs.Rose.{Roses, nil, cons, size, sizes, At, Ats}
use Rattle.spec.specs.Rose.{count as countR}
use Rattle.spec.specs.Grammar.{Valid}
use Rattle.spec.specs.Meaning.{expr_of}
use Rattle.spec.specs.Tree.{Expr, fresh, Exprs, no_exprs, more_exprs, Stmts, no_stmts, count_e, rose_e, roses_e}
use Rattle.spec.specs.Pass.{nodes_of, nodes_in}
use Rattle.spec.specs.PassStmts.{part_stmts, expr_step, expr_stmts, if_stmts}
use Rattle.spec.specs.PassStmts as Stmts·spec
use Rattle.spec.specs.Weight.{weight_e, weight_es, made_room}
use Rattle.spec.proofs.Passed.{ValidExprs, valid_parts, first_exprs}
use Rattle.spec.proofs.Rows.{made_words, extend_words}
use Rattle.spec.proofs.Weights.{roses_weight}
use Rattle.spec.proofs.Meanings.{rose_expr, proper_expr}
use Rattle.spec.proofs.Trees.{expr_alone}
use Rattle.spec.proofs.Unroll.{some_nodes}
use Rattle.spec.specs.declared.Sort.TheVariants as sort
use Rattle.ir.specs.Standing.{SomeExprs, SkipOf}
use Rattle.ir.specs.Standing.{ValidExprs as StandingExprs}
use Rattle.purity.specs.Told.{IsImpure}
use Rattle.purity.proofs.Pures.{no_end}
use Rattle.runs.specs.Held.{Holds, Kept, EmptyDone, ExtendAsk, ExtendDone}
use Rattle.runs.specs.declared.Run.{Run}
use Rattle.stmt.specs.Made.{WayOf, parts, WayDone, EndAsk, AtBack, ExprAsk, ExprDone}
use Rattle.stmt.specs.declared.Way.TheVariants as way
use Rattle.runs.proofs.Holding.{kept_refl, kept_trans, kept_less, kept_ats, holds_kept, holds_few}
use Rattle.stmt.proofs.Steps.{way_of, finish, stepped}

-- of the expression that was asked for in w, the parts `rest` stand in v from `next` on, and of the n parts i are done;
-- the run holds what is made of these
pub record Row (w : List ℕ) (low at end top nodes n : ℕ) (v : List ℕ) (run : Run) (next i : ℕ) (rest : Exprs)
    (done : Stmts) : Type 0 where
  pub asked : ExprAsk w low at end top nodes
  pub so : expr_stmts asked.tree ≡ part_stmts expr_stmts done rest
  pub valid : ValidExprs rest
  pub here : Ats v next (roses_e rest)
  pub ends : end ≡ next + sizes (roses_e rest)
  pub many : i + count_e rest ≡ n
  pub order : low ≤ next
  pub fits : low + weight_es rest ≤ end
  pub few : nodes_in rest < nodes
  pub kept : Kept low end top w v
  pub long : length v ≡ length w
  pub begins : run.at ≡ top
  pub holds : Holds v run done
  pub room : run.end + made_room (weight_es rest) ≤ length v

-- the loop's invariant
pub record Turn (w : List ℕ) (low at end top nodes n : ℕ) (v : List ℕ) (run : Run) (next i : ℕ) : Type 0 where
  pub rest : Exprs
  pub done : Stmts
  pub row : Row w low at end top nodes n v run next i rest done

-- ---- the first turn

module _ {w : List ℕ} {low at end top nodes : ℕ} (a : ExprAsk w low at end top nodes) (impure : IsImpure w at)
  where
    turn_begin : {first n : ℕ} {r : Run} {e : Expr} → EmptyDone top r → a.tree ≡ e → WayOf w at e (way.Parts first n)
        → Turn w low at end top nodes n w r first 0
    unfolding expr_step nodes_of nodes_in
    turn_begin d same (parts f es first n past many) =
        let b : AtBack w low at end (fresh f es) = subst (AtBack w low at end) same a.back in
        let room : top + made_room (weight_e (fresh f es)) ≤ length w =
        subst (λ (e : Expr). top + made_room (weight_e e) ≤ length w) same a.room in
        let few : nodes_of (fresh f es) ≤ nodes = subst (λ (e : Expr). nodes_of e ≤ nodes) same a.few in
        record {
          rest = es;
          done = no_stmts;
          row = record {
            asked = a;
            so = stepped a impure ∙ ap (expr_step expr_stmts if_stmts) same;
            valid = valid_parts (fresh f es) b.is.valid;
            here = subst (λ (i : ℕ). Ats w i (roses_e es)) (sym past) b.is.here.1;
            ends = omega (arith, b.is.ends, past);
            many = omega (arith, many);
            order = omega (arith, b.order, past);
            fits = omega (arith, b.fits);
            few = omega (arith, few);
            kept = kept_refl low end top w;
            long = refl;
            begins = d.begins;
            holds = d.right w;
            room = omega (arith, d.ends, room);
          };
        }

    pub turn_start : {first n : ℕ} {r : Run} → WayDone w at (way.Parts first n) → EmptyDone top r
        → Turn w low at end top nodes n w r first 0
    turn_start d g = turn_begin g refl (way_of a d)

-- ---- one turn

module _ {w : List ℕ} {low at end top nodes n : ℕ} {v : List ℕ} {run : Run} {next i : ℕ} {e : Expr} {es : Exprs}
    {done : Stmts} (t : Row w low at end top nodes n v run next i (more_exprs e es) done) where
  below : end ≤ run.at
  below = omega (arith, t.asked.below, t.begins)

  inside : end ≤ length v
  inside = omega (arith, below, t.holds.ends, t.room)

  row_skip : SomeExprs v next 1
  row_skip = record {
    trees = cons (rose_e e) nil;
    valid = (t.valid.1.0, tt);
    here = (t.here.0, tt);
    many = refl;
    inside = omega (arith, t.ends, inside);
  }

  -- the last part ends where the whole does
  row_last : i + 1 ≡ n → SkipOf v next 1 end
  row_last last = record { of = λ ps valid here many. one_part ps valid here many }
    where
      none : (es : Exprs) → count_e es ≡ 0 → sizes (roses_e es) ≡ 0
      none no_exprs m = refl
      none (more_exprs x xs) m = absurd (omega (arith, m))

      one_part : (ps : Roses) → StandingExprs ps → Ats v next ps → 1 ≡ countR ps → end ≡ next + sizes ps
      one_part nil valid here many = absurd (omega (arith, many))
      one_part (cons p (cons r rs)) valid here many = absurd (omega (arith, many))
      one_part (cons p nil) valid here many =
          let again = rose_expr p valid.0 in
          let same = expr_alone v next (expr_of p) e
          (proper_expr p valid.0, subst (Valid sort.Expr) (sym again) valid.0) (first_exprs e es t.valid).0
          (subst (At v next) (sym again) here.0) t.here.0 in
          let sized : size p ≡ size (rose_e e) = sym (ap size again) ∙ ap (λ (x : Expr). size (rose_e x)) same in
          omega (arith, sized, t.ends, none es (omega (arith, t.many, last)))

  row_end : {last : Bool} → (last ≡ true → i + 1 ≡ n) → EndAsk v next end last
  row_end is = record { some = row_skip; whole = λ q. row_last (is q) }

  module _ {then' : ℕ} (q : SkipOf v next 1 then') where
    skipped : then' ≡ next + size (rose_e e)
    skipped =
        let z = q.of (cons (rose_e e) nil) (t.valid.1.0, tt) (t.here.0, tt) refl in
        omega (arith, z)

    back : AtBack v low next then' e
    back = record {
      is = record { valid = (first_exprs e es t.valid).0; here = t.here.0; ends = skipped };
      order = t.order;
      fits = omega (arith, t.fits, t.ends, skipped, roses_weight (roses_e es));
    }

    row_ask : ExprAsk v low next then' run.end (nodes - 1)
    unfolding nodes_of
    row_ask = record {
      tree = e;
      back = back;
      below = omega (arith, t.ends, skipped, below, t.holds.ends);
      room = omega (arith, t.room);
      few = omega (arith, t.few);
      short = omega (arith, t.asked.short, t.long);
    }

    module _ {u : List ℕ} (lu : length u ≡ length v) {more : Run}
        (d : ExprDone v u low next then' run.end more) where
      more_holds : Holds u more (expr_stmts e)
      more_holds = d.right e back

      run_holds : Holds u run done
      run_holds = holds_kept d.kept (omega (arith, t.ends, skipped, below)) (omega arith) t.holds

      row_extend : ExtendAsk run more
      row_extend = record {
        few = omega (
          arith,
          holds_few done t.holds,
          holds_few (expr_stmts e) more_holds,
          made_words e,
          t.holds.ends,
          t.room,
          t.long,
          t.asked.short,
        );
      }

      row_again : {r : Run} → ExtendDone run more r
          → Row w low at end top nodes n u r then' (i + 1) es (Stmts·spec.extend done (expr_stmts e))
      unfolding nodes_of nodes_in part_stmts
      row_again {r} g =
          let h = g.right u done (expr_stmts e) run_holds more_holds d.begins in
          record {
            asked = t.asked;
            so = t.so;
            valid = (first_exprs e es t.valid).1;
            here = kept_ats d.kept (roses_e es) then' (omega arith)
                (omega (arith, t.ends, skipped, below, t.holds.ends))
                (subst (λ (k : ℕ). Ats v k (roses_e es)) (sym skipped) t.here.1);
            ends = omega (arith, t.ends, skipped);
            many = omega (arith, t.many);
            order = omega (arith, t.order, skipped);
            fits = omega (arith, t.fits);
            few = omega (arith, t.few);
            kept = kept_trans t.kept
                (kept_less low end top (omega arith) (omega (arith, t.ends, skipped))
                (omega (arith, t.begins, t.holds.ends)) d.kept);
            long = lu ∙ t.long;
            begins = g.begins ∙ t.begins;
            holds = h;
            room = omega (
              arith,
              h.ends,
              g.begins,
              extend_words done (expr_stmts e),
              made_words e,
              t.holds.ends,
              t.room,
              lu,
            );
          }

module _ {w : List ℕ} {low at end top nodes n : ℕ} {v : List ℕ} {run : Run} {next i : ℕ}
    (t : Turn w low at end top nodes n v run next i) where
  -- while a part is left
  module _ (more : i < n) where
    split : (e : Expr) × (es : Exprs) × (done : Stmts)
        × Row w low at end top nodes n v run next i (more_exprs e es) done
    split = go t.rest t.row
      where
        go : (rest : Exprs) → Row w low at end top nodes n v run next i rest t.done
            → (e : Expr) × (es : Exprs) × (done : Stmts)
            × Row w low at end top nodes n v run next i (more_exprs e es) done
        go no_exprs r = absurd (omega (arith, r.many))
        go (more_exprs e es) r = (e, es, t.done, r)

    pub turn_end : EndAsk v next end (eqb (i + 1) n)
    turn_end = row_end split.3 (λ q. eqb-true (i + 1) n q)

    module _ {then' : ℕ} (q : SkipOf v next 1 then') where
      pub turn_ask : ExprAsk v low next then' run.end (nodes - 1)
      turn_ask = row_ask split.3 q

      module _ {u : List ℕ} (lu : length u ≡ length v) {part : Run}
          (d : ExprDone v u low next then' run.end part) where
        pub turn_extend : ExtendAsk run part
        turn_extend = row_extend split.3 q lu d

        pub turn_again : {r : Run} → ExtendDone run part r → Turn w low at end top nodes n u r then' (i + 1)
        turn_again g = record { rest = split.1; done = _; row = row_again split.3 q lu d g }

  -- when none is
  pub turn_done : n ≤ i → ExprDone w v low at end top run
  unfolding part_stmts
  turn_done stop = go t.rest t.row
    where
      go : (rest : Exprs) → Row w low at end top nodes n v run next i rest t.done → ExprDone w v low at end top run
      go no_exprs r = finish r.asked r.kept r.begins (subst (Holds v run) (sym r.so) r.holds)
      go (more_exprs e es) r = absurd (omega (arith, r.many))

-- ---- what the check applies in `expr`

pub ruleset starts = (turn_start, no_end, some_nodes)
