-- The loop of `if_expr`: what remains to be done, with the condition, the arms and the words as they are now, makes the
-- whole. So each step is one of the lemmas of Ways, put before what was there.
-- Assumes nothing.
use mathlib.Core.Bool.{Bool, cond}
use mathlib.Core.List.{List, [], ◌∷◌}
use mathlib.Core.Path.{◌≡◌, refl, sym, subst, ◌∙◌}
use Prim.Native.Nat.{ℕ, ◌+◌, ◌-◌, ◌≤◌}
use native.Mathlib.Omega.{arith}
use lib.ListN.{length}
use Rattle.spec.specs.Rose.{Roses, nil, cons, sizes, Ats}
use Rattle.spec.specs.Rose.{count as countR}
use Rattle.spec.specs.Grammar.{header}
use Rattle.spec.specs.Pass.{if_expr}
use Rattle.spec.proofs.Weights.{some_weight}
use Rattle.ir.specs.Standing.{SkipOf, ValidExprs}
use Rattle.ir.specs.Written.{Written}
use Rattle.purity.specs.Told.{IsPure, IsImpure}
use Rattle.buffer.specs.Copy.{PutAsk, PutDone}
use Rattle.expr_bool.specs.Asked.{SlotAsk, SlotDone, swapped}
use Rattle.expr_bool.specs.declared.Condition.TheVariants as condition
use Rattle.if_expr.specs.Arms.{TestDone, WriteDone, IfAsk, IfDone, LeftAsk, Onward, StepDone}
use Rattle.expr_bool.specs.declared.Arms.{Arms}
use Rattle.if_expr.specs.declared.Arm.{Arm}
use Rattle.if_expr.specs.declared.Test.TheVariants as test
use Rattle.if_expr.specs.declared.Step.TheVariants as step
use Rattle.if_expr.proofs.Ways.{slot_ask, arm_ask, arm_done, left_ask, left_done}
use Rattle.if_expr.proofs.Ways.{not_past, not_ask, not_done, seq_past, pure_ask, pure_done}
use Rattle.if_expr.proofs.Ways.{behind_ask, behind_done, write_done}

-- ---- one step

-- a pure expression ends where it was told to
pub pure_ends : {w : List ℕ} {at next : ℕ} → IsPure w at next → SkipOf w at 1 next
pure_ends {w} {at} {next} o = record { of = ends }
  where
    ends : (ps : Roses) → ValidExprs ps → Ats w at ps → 1 ≡ countR ps → next ≡ at + sizes ps
    ends nil v a e = absurd (omega arith)
    ends (cons r nil) v a e = omega (arith, (o.of r v.0 a.0).1)
    ends (cons r (cons q ps)) v a e = absurd (omega arith)

-- by what the condition is
module _ {w : List ℕ} {at end cap : ℕ} {arms : Arms Arm} {top : ℕ} (a : LeftAsk w at end cap arms top) where
  pub not_step : {part : ℕ} → TestDone w at (test.Not part) → StepDone w w at cap arms top (step.Not part)
  not_step q = record {
    by = record {
      past = (not_past a q).0;
      within = (not_past a q).1;
      ask = not_ask a q;
      so = λ u r d. not_done a q d;
    };
  }

  -- a Seq whose left part is pure, and any other
  module _ {first : ℕ} (q : TestDone w at (test.Seq first)) where
    pub pure_step : {next : ℕ} → IsPure w first next → StepDone w w at cap arms top (step.Seq next top)
    pure_step o =
        let z = pure_ends o in
        record {
          by = record {
            past = (seq_past a q z).0;
            within = (seq_past a q z).1;
            ask = pure_ask a q z;
            so = λ u r d. pure_done a q z o d;
          };
        }

    pub behind_step : IsImpure w first → {part : ℕ} → SkipOf w first 1 part → {v u : List ℕ} {body behind : ℕ}
        → length v ≡ length w
        → Written w v top (header 13 0 ∷ []) body → PutDone v u first part body behind
        → StepDone w u at cap arms top (step.Seq part behind)
    behind_step o z lv h m = record {
      by = record {
        past = (seq_past a q z).0;
        within = (seq_past a q z).1;
        ask = behind_ask a q z lv h m;
        so = λ u r d. behind_done a q z lv h m d o;
      };
    }

  pub made_step : TestDone w at test.Stays → {u : List ℕ} {r : ℕ} → WriteDone w u at end arms top r
      → StepDone w u at cap arms top (step.Made r)
  made_step q d = record { by = write_done a q d }

-- ---- step after step

-- an If over the condition and the arms as they are now makes the If that was asked for; the slot still ends at `high`
pub record Going (w₀ : List ℕ) (at₀ cap₀ : ℕ) (arms₀ : Arms Arm) (top₀ high : ℕ) (w : List ℕ) (at : ℕ) (arms : Arms Arm)
    (top : ℕ) : Type 0 where
  pub ask : IfAsk w at (high - at) arms top
  pub upto : at ≤ high
  pub long : length w ≡ length w₀
  pub so : (u : List ℕ) (r : ℕ) → IfDone w u at (high - at) arms top if_expr r
      → IfDone w₀ u at₀ cap₀ arms₀ top₀ if_expr r

pub going_start : {w : List ℕ} {at high : ℕ} {arms : Arms Arm} {top : ℕ} → IfAsk w at (high - at) arms top
    → Going w at (high - at) arms top high w at arms top
going_start a = record {
  ask = a;
  upto = omega (arith, some_weight a.tree, a.slotted.fits);
  long = refl;
  so = λ u r d. d;
}

module _ {w₀ : List ℕ} {at₀ cap₀ : ℕ} {arms₀ : Arms Arm} {top₀ high : ℕ} {w : List ℕ} {at : ℕ} {arms : Arms Arm}
    {top : ℕ} (g : Going w₀ at₀ cap₀ arms₀ top₀ high w at arms top) where
  pub going_slot : SlotAsk w at (high - at) top
  going_slot = slot_ask g.ask

  module _ {v : List ℕ} (lv : length v ≡ length w) where
    -- a constant
    module _ {b : Bool} (d : SlotDone w v at (high - at) top (condition.Const b)) {arm : Arm}
        (e : arm ≡ cond b arms.yes arms.no) where
      pub going_arm : PutAsk (length v) arm.at arm.end top
      going_arm = arm_ask g.ask lv d e

      pub going_const : {u : List ℕ} {r : ℕ} → PutDone v u arm.at arm.end top r
          → IfDone w₀ u at₀ cap₀ arms₀ top₀ if_expr r
      going_const {u} {r} p = g.so u r (arm_done g.ask lv d e p)

    -- an expression is left
    module _ {end : ℕ} (d : SlotDone w v at (high - at) top (condition.Expr end)) where
      pub going_left : LeftAsk v at end (high - at) arms top
      going_left = left_ask g.ask lv d

      -- a step that makes the If
      pub going_made : {u : List ℕ} {r : ℕ} → StepDone v u at (high - at) arms top (step.Made r)
          → IfDone w₀ u at₀ cap₀ arms₀ top₀ if_expr r
      going_made {u} {r} o = g.so u r (left_done g.ask lv d o.by)

      -- a step after which `if_expr` goes on
      module _ {z : List ℕ} (lz : length z ≡ length v) {part : ℕ} where
        going_on : {next : Arms Arm} {new : ℕ} → Onward v z at (high - at) arms top part next new
            → Going w₀ at₀ cap₀ arms₀ top₀ high z part next new
        going_on {next} {new} o =
            let e : high - at - (part - at) ≡ high - part = omega (arith, o.past) in
            record {
              ask = subst (λ (n : ℕ). IfAsk z part n next new) e o.ask;
              upto = omega (arith, o.within, g.upto);
              long = lz ∙ lv ∙ g.long;
              so = λ u r f. g.so u r (left_done g.ask lv d
                  (o.so u r (subst (λ (n : ℕ). IfDone z u part n next new if_expr r) (sym e) f)));
            }

        pub going_not : StepDone v z at (high - at) arms top (step.Not part) → {next : Arms Arm} → next ≡ swapped arms
            → Going w₀ at₀ cap₀ arms₀ top₀ high z part next top
        going_not o e =
            subst (λ (x : Arms Arm). Going w₀ at₀ cap₀ arms₀ top₀ high z part x top) (sym e) (going_on o.by)

        pub going_seq : {new : ℕ} → StepDone v z at (high - at) arms top (step.Seq part new)
            → Going w₀ at₀ cap₀ arms₀ top₀ high z part arms new
        going_seq o = going_on o.by
