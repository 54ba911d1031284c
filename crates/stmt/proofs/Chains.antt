-- The loop of `if_stmt`: behind the statements that are made already, what remains to be made is an If over the
-- condition and the arms as they are now.
-- Assumes nothing.
use mathlib.Core.Bool.{Bool, cond, true, false, ◌&&◌}
use mathlib.Core.List.{List}
use mathlib.Core.Path.{◌≡◌, refl, ap, sym, subst, ◌∙◌}
use Prim.Native.Nat.{ℕ, ◌+◌, ◌-◌, ◌≤◌}
use native.Mathlib.Omega.{arith}
use lib.Dec.{eqb}
use lib.ListN.{length}
use Rattle.spec.specs.Tree
use Rattle.spec.specs.Tree.{Expr, seq, Stmts, no_stmts}
use Rattle.spec.specs.PassStmts.{is_terminal, if_stmt_left, expr_stmts, if_stmts}
use Rattle.spec.specs.PassStmts as Stmts·spec
use Rattle.spec.specs.Weight.{row_words}
use Rattle.spec.proofs.Rows.{made_words, if_words}
use Rattle.spec.proofs.Trees.{expr_unique}
use Rattle.spec.proofs.Exits.{extend_joins, extend_none, extend_last, extend_assoc, expr_stmts_exit}
use Rattle.ir.specs.Standing.{SomeExprs, SkipOf}
use Rattle.expr_bool.specs.declared.Condition.TheVariants as condition
use Rattle.if_expr.specs.Arms.{TestAsk, TestDone}
use Rattle.if_expr.specs.declared.Test.TheVariants as test
use Rattle.runs.specs.Held.{Holds, Kept, Within, EmptyDone, ExtendAsk, ExtendDone, BackDone, PlaceDone}
use Rattle.runs.specs.Held.{WriteAsk, WriteDone}
use Rattle.expr_bool.specs.Asked.{swapped}
use Rattle.expr_bool.specs.declared.Arms.{Arms}
use Rattle.runs.specs.declared.Run.{Run}
use Rattle.runs.proofs.Rows.{join_row}
use Rattle.runs.proofs.Holding.{kept_refl, kept_trans, kept_less, holds_kept, holds_few}
use Rattle.stmt.specs.Made.{ExprDone, ArmsHold, IfAsk, IfDone, Left, StepDone}
use Rattle.stmt.specs.declared.Step.TheVariants as step
use Rattle.stmt.proofs.Ifs.{const_done, left_of, left_test, left_not, left_seq, seq_skip}
use Rattle.stmt.proofs.Ifs.{whole_ask, whole_done}
use Rattle.stmt.proofs.Ifs.{if_finish, arms_left, arms_swapped, not_within, not_ask, ends, ahead_holds, behind}
use Rattle.stmt.proofs.Ifs.{rest_within, arms_rest, rest_ask}

-- ---- one step

-- a constant
module _ {w : List ℕ} {low at high : ℕ} {arms : Arms Run} {top nodes : ℕ} (a : IfAsk w low at high arms top nodes)
    {v : List ℕ} (lv : length v ≡ length w) {b : Bool} (d : BackDone w v low at high top (condition.Const b))
    {arm : Run} (e : arm ≡ cond b arms.yes arms.no) where
  pub step_const : {u : List ℕ} {r : Run} → PlaceDone v u arm top r
      → StepDone w u low at high arms top nodes (step.Made r)
  step_const g = record { by = const_done a lv d e g }

-- an expression, by its test
module _ {w : List ℕ} {low at high : ℕ} {arms : Arms Run} {top nodes : ℕ} (a : IfAsk w low at high arms top nodes)
    {v : List ℕ} (lv : length v ≡ length w) {back : ℕ} (d : BackDone w v low at high top (condition.Expr back)) where
  abbrev left : (e : Expr) × Left w low at high arms top nodes v back e
  left = left_of a lv d

  pub step_test : TestAsk v back
  step_test = left_test left.1

  pub step_not : {part : ℕ} → TestDone v back (test.Not part)
      → StepDone w v low at high arms top nodes (step.Not part)
  step_not t =
      let n = left_not left.1 t in
      record { by = record { back = back; inner = n.0; left = n.2; past = n.1 } }

  module _ {first : ℕ} (t : TestDone v back (test.Seq first)) where
    pub step_skip : SomeExprs v first 1
    step_skip =
        let s = left_seq left.1 t in
        seq_skip s.3 s.2

    pub step_seq : {part : ℕ} → SkipOf v first 1 part
        → StepDone w v low at high arms top nodes (step.Seq first part)
    step_seq skipped =
        let s = left_seq left.1 t in
        record { by = record { back = back; ahead = s.0; rest = s.1; left = s.3; past = s.2; skipped = skipped } }

  pub step_write : WriteAsk v back high arms top
  step_write = whole_ask left.1

  module _ (t : TestDone v back test.Stays) where
    pub step_bare : (eqb arms.yes.count 0 && eqb arms.no.count 0) ≡ true
        → StepDone w v low at high arms top nodes (step.Bare back)
    step_bare none = record { by = record { whole = left.0; left = left.1; stays = t; none = none } }

    pub step_whole : (eqb arms.yes.count 0 && eqb arms.no.count 0) ≡ false → {u : List ℕ} {r : Run}
        → WriteDone v u back high arms top r → StepDone w u low at high arms top nodes (step.Made r)
    step_whole some g = record { by = whole_done left.1 t some g }

-- ---- step after step

-- no other condition stands there
only_tree : {w : List ℕ} {low at high : ℕ} {arms : Arms Run} {top nodes : ℕ} (a : IfAsk w low at high arms top nodes)
    (c : Expr) → Within w low at high c → c ≡ a.tree
only_tree {w} {at = at} a c i =
    let s = a.within in
    sym (expr_unique w at a.tree c s.stands.valid i.stands.valid s.stands.here i.stands.here
    (omega (arith, s.inner, a.below, a.room)) (omega (arith, i.inner, a.below, a.room)))

-- the lists of the arms as they are now, of an If over the condition c₀ and the lists x and y at the start
pub record Lists (c₀ : Expr) (x y : Stmts) (w : List ℕ) (high : ℕ) (arms : Arms Run) (top : ℕ) (before : Stmts)
    (c : Expr) : Type 0 where
  pub first : Stmts
  pub second : Stmts
  pub held : ArmsHold w high arms top first second
  pub so : if_stmts c₀ x y ≡ Stmts·spec.extend before (if_stmts c first second)

-- behind the statements in the run, an If over the condition and the arms as they are now makes the one asked for
pub record Going (w₀ : List ℕ) (low at₀ high : ℕ) (arms₀ : Arms Run) (top₀ nodes₀ : ℕ) (w : List ℕ) (at : ℕ)
    (arms : Arms Run) (run : Run) (nodes : ℕ) : Type 0 where
  pub asked : IfAsk w₀ low at₀ high arms₀ top₀ nodes₀
  pub ask : IfAsk w low at high arms run.end nodes
  pub long : length w ≡ length w₀
  pub less : nodes ≤ nodes₀
  pub kept : Kept low high top₀ w₀ w
  pub begins : run.at ≡ top₀
  pub before : Stmts
  pub holds : Holds w run before
  pub goes : is_terminal before ≡ false
  pub tree : Expr
  pub within : Within w low at high tree
  pub lists : (x y : Stmts) → ArmsHold w₀ high arms₀ top₀ x y
      → Lists asked.tree x y w high arms run.end before tree

-- nothing is made yet
pub going_start : {w : List ℕ} {low at high : ℕ} {arms : Arms Run} {top nodes : ℕ} {run : Run}
    → IfAsk w low at high arms top nodes → EmptyDone top run
    → Going w low at high arms top nodes w at arms run nodes
unfolding is_terminal
going_start {w} {low} {at} {high} {arms} {top} {nodes} {run} a e = record {
  asked = a;
  ask = subst (λ (t : ℕ). IfAsk w low at high arms t nodes) (sym e.ends) a;
  long = refl;
  less = omega arith;
  kept = kept_refl low high top w;
  begins = e.begins;
  before = no_stmts;
  holds = e.right w;
  goes = refl;
  tree = a.tree;
  within = a.within;
  lists = λ x y m. record {
    first = x;
    second = y;
    held = subst (λ (t : ℕ). ArmsHold w high arms t x y) (sym e.ends) m;
    so = sym (extend_none (if_stmts a.tree x y));
  };
}

module _ {w₀ : List ℕ} {low at₀ high : ℕ} {arms₀ : Arms Run} {top₀ nodes₀ : ℕ} {w : List ℕ} {at : ℕ} {arms : Arms Run}
    {run : Run} {nodes : ℕ} (g : Going w₀ low at₀ high arms₀ top₀ nodes₀ w at arms run nodes) where
  -- the run stands above the slot, and its end at or above the first top
  above : (high ≤ run.at) × (top₀ ≤ run.end)
  above = (omega (arith, g.asked.below, g.begins), omega (arith, g.holds.ends, g.begins))

  -- what is made is put behind what was made before
  module _ {u : List ℕ} {made : Run} (d : IfDone w u low at high arms run.end made) where
    pub made_extend : ExtendAsk run made
    made_extend =
        let a = g.ask in
        let s = a.yes_list in
        let t = a.no_list in
        record {
          few = omega (
            arith,
            holds_few g.before g.holds,
            g.holds.ends,
            holds_few (if_stmts a.tree s t) (d.right a.tree s t a.within a.held),
            if_words a.tree s t,
            a.room,
            a.short,
          );
        }

    pub going_done : {r : Run} → ExtendDone run made r → IfDone w₀ u low at₀ high arms₀ top₀ r
    going_done {r} f =
        if_finish g.asked
        (kept_trans g.kept (kept_less low high top₀ (omega arith) (omega arith) above.1 d.kept))
        (f.begins ∙ g.begins)
        (λ x y m.
        let l = g.lists x y m in
        subst (Holds u r) (sym l.so)
        (f.right u g.before (if_stmts g.tree l.first l.second)
        (holds_kept d.kept above.0 (omega arith) g.holds)
        (d.right g.tree l.first l.second g.within l.held) d.begins))

  -- what is left of the condition is a Not
  module _ {v : List ℕ} {back : ℕ} {z : Expr} {part : ℕ}
      (l : Left w low at high arms run.end nodes v back (Tree.not z)) (past : part ≡ back + 1) where
    going_swapped : Going w₀ low at₀ high arms₀ top₀ nodes₀ v part (swapped arms) run (nodes - 1)
    unfolding if_stmt_left
    going_swapped =
        let same : g.tree ≡ l.asked.tree = only_tree l.asked g.tree g.within in
        record {
          asked = g.asked;
          ask = not_ask l past;
          long = l.long ∙ g.long;
          less = omega (arith, g.less);
          kept = kept_trans g.kept (kept_less low high top₀ (omega arith) (omega arith) above.1 l.kept);
          begins = g.begins;
          before = g.before;
          holds = holds_kept l.kept above.0 (omega arith) g.holds;
          goes = g.goes;
          tree = z;
          within = not_within l past;
          lists = λ x y m.
              let n = g.lists x y m in
              record {
                first = n.second;
                second = n.first;
                held = arms_swapped (arms_left l n.held);
                so = n.so ∙ ap (λ (c : Expr). Stmts·spec.extend g.before (if_stmts c n.first n.second)) same
                    ∙ ap (λ (s : Stmts). Stmts·spec.extend g.before s) (l.so n.first n.second);
              };
        }

    pub going_not : {next : Arms Run} → next ≡ swapped arms
        → Going w₀ low at₀ high arms₀ top₀ nodes₀ v part next run (nodes - 1)
    going_not e =
        subst (λ (x : Arms Run). Going w₀ low at₀ high arms₀ top₀ nodes₀ v part x run (nodes - 1)) (sym e)
        going_swapped

  -- a Seq, whose left part's statements are made behind what was made before
  module _ {v : List ℕ} {back : ℕ} {p z : Expr} {first part : ℕ}
      (l : Left w low at high arms run.end nodes v back (seq p z)) (past : first ≡ back + 1)
      (q : SkipOf v first 1 part) {u : List ℕ} (lu : length u ≡ length v) {ahead : Run}
      (d : ExprDone v u low first part run.end ahead) where
    pub ahead_extend : ExtendAsk run ahead
    ahead_extend = record {
      few = omega (
        arith,
        holds_few g.before g.holds,
        g.holds.ends,
        holds_few (expr_stmts p) (ahead_holds l past q lu d),
        made_words p,
        l.room,
        l.long,
        g.ask.room,
        g.ask.short,
      );
    }

    module _ {more : Run} (f : ExtendDone run ahead more) where
      abbrev now : Stmts
      now = Stmts·spec.extend g.before (expr_stmts p)

      run_holds : Holds u run g.before
      run_holds =
          holds_kept d.kept (omega (arith, ends l past q, above.0)) (omega arith)
          (holds_kept l.kept above.0 (omega arith) g.holds)

      now_holds : Holds u more now
      now_holds = f.right u g.before (expr_stmts p) run_holds (ahead_holds l past q lu d) d.begins

      now_goes : is_terminal now ≡ false
      now_goes = extend_last g.before (expr_stmts p) g.goes ∙ expr_stmts_exit p

      now_ends : more.end ≡ ahead.end
      now_ends =
          omega (
            arith,
            now_holds.ends,
            f.begins,
            ap row_words (extend_joins g.before (expr_stmts p) g.goes),
            join_row g.before (expr_stmts p),
            g.holds.ends,
            behind l past q lu d,
          )

      pub going_seq : Going w₀ low at₀ high arms₀ top₀ nodes₀ u part arms more (nodes - 1)
      unfolding if_stmt_left
      going_seq =
          let same : g.tree ≡ l.asked.tree = only_tree l.asked g.tree g.within in
          record {
            asked = g.asked;
            ask = subst (λ (t : ℕ). IfAsk u low part high arms t (nodes - 1)) (sym now_ends)
                (rest_ask l past q lu d);
            long = lu ∙ l.long ∙ g.long;
            less = omega (arith, g.less);
            kept = kept_trans g.kept
                (kept_trans (kept_less low high top₀ (omega arith) (omega arith) above.1 l.kept)
                (kept_less low high top₀ (omega arith) (omega (arith, ends l past q)) above.1 d.kept));
            begins = f.begins ∙ g.begins;
            before = now;
            holds = now_holds;
            goes = now_goes;
            tree = z;
            within = rest_within l past q lu d;
            lists = λ x y m.
                let n = g.lists x y m in
                record {
                  first = n.first;
                  second = n.second;
                  held = subst (λ (t : ℕ). ArmsHold u high arms t n.first n.second) (sym now_ends)
                      (arms_rest l past q lu d n.held);
                  so = n.so ∙ ap (λ (c : Expr). Stmts·spec.extend g.before (if_stmts c n.first n.second)) same
                      ∙ ap (λ (s : Stmts). Stmts·spec.extend g.before s) (l.so n.first n.second)
                      ∙ sym (extend_assoc g.before (expr_stmts p) (if_stmts z n.first n.second) g.goes);
                };
          }

-- ---- what the check applies

pub ruleset steps = (step_not, step_seq, step_bare)
