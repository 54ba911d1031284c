-- `write_if`: three copies behind a header.
-- Assumes nothing.
use mathlib.Core.List.{List, [], ◌∷◌}
use mathlib.Core.Path.{◌≡◌, subst, ◌∙◌}
use Prim.Native.Nat.{ℕ, ◌+◌, ◌<◌}
use native.Mathlib.Omega.{arith}
use lib.ListN.{length, get_or}
use Rattle.spec.specs.Rose.{size, At}
use Rattle.spec.specs.Grammar.{header}
use Rattle.spec.specs.Tree.{if_then, rose_e}
use Rattle.spec.proofs.Passed.{if_node}
use Rattle.ir.specs.Written.{Written}
use Rattle.buffer.specs.Copy.{Same, PutAsk, PutDone}
use Rattle.buffer.proofs.Frames.{same_trans, same_less}
use Rattle.expr_forms.specs.Made.{Is}
use Rattle.if_expr.specs.Arms.{WriteAsk, WriteDone}
use Rattle.expr_bool.specs.declared.Arms.{Arms}
use Rattle.if_expr.specs.declared.Arm.{Arm}
use Rattle.expr_forms.proofs.Moves.{is_same, is_put, put_above, is_only}

-- own words written above a frame keep it
pub written_same : {w v : List ℕ} {top r : ℕ} {xs : List ℕ} → Written w v top xs r → Same top w v
written_same d = record { word = d.below }

module _ {w : List ℕ} {at end : ℕ} {arms : Arms Arm} {top : ℕ} (a : WriteAsk w at end arms top) where
  pub head_ask : top < length w
  head_ask = omega (arith, a.room)

  module _ {v : List ℕ} {body : ℕ} (lv : length v ≡ length w) (h : Written w v top (header 9 0 ∷ []) body) where
    past : body ≡ top + 1
    past = h.ends

    condition_is_lem : Is v at end a.tree
    condition_is_lem = is_same (written_same h) a.below a.is

    pub condition_ask : PutAsk (length v) at end body
    condition_ask = put_above condition_is_lem (omega (arith, past, a.below)) (omega (arith, past, lv, a.room))

    module _ {u : List ℕ} {next : ℕ} (p : PutDone v u at end body next) where
      second : next ≡ top + 1 + size (rose_e a.tree)
      second = omega (arith, past, p.ends, a.is.ends)

      su : Same top w u
      su = same_trans (written_same h) (same_less top (omega (arith, past)) p.frame)

      yes_is : Is u arms.yes.at arms.yes.end a.yes_tree
      yes_is = is_same su a.armed.yes_below a.armed.yes_is

      pub yes_ask : PutAsk (length u) arms.yes.at arms.yes.end next
      yes_ask =
          put_above yes_is (omega (arith, second, a.armed.yes_below)) (omega (arith, second, lv, p.long, a.room))

      module _ {x : List ℕ} {last : ℕ} (q : PutDone u x arms.yes.at arms.yes.end next last) where
        third : last ≡ top + 1 + size (rose_e a.tree) + size (rose_e a.yes_tree)
        third = omega (arith, second, q.ends, a.armed.yes_is.ends)

        sx : Same top w x
        sx = same_trans su (same_less top (omega (arith, second)) q.frame)

        no_is : Is x arms.no.at arms.no.end a.no_tree
        no_is = is_same sx a.armed.no_below a.armed.no_is

        pub no_ask : PutAsk (length x) arms.no.at arms.no.end last
        no_ask =
            put_above no_is (omega (arith, third, a.armed.no_below))
            (omega (arith, third, lv, p.long, q.long, a.room))

        module _ {z : List ℕ} {r : ℕ} (g : PutDone x z arms.no.at arms.no.end last r) where
          made : Is z top r (if_then a.tree a.yes_tree a.no_tree)
          made =
              let c₁ : Is u body next a.tree = is_put p condition_is_lem in
              let c₂ : Is x body next a.tree = is_same q.frame (omega arith) c₁ in
              let c₃ : Is z body next a.tree = is_same g.frame (omega (arith, second, third)) c₂ in
              let t₂ : Is x next last a.yes_tree = is_put q yes_is in
              let t₃ : Is z next last a.yes_tree = is_same g.frame (omega arith) t₂ in
              let f₃ : Is z last r a.no_tree = is_put g no_is in
              let head : get_or z top 0 ≡ 9 =
              g.frame.word top (omega (arith, third)) ∙ q.frame.word top (omega (arith, second))
              ∙ p.frame.word top (omega (arith, past)) ∙ h.here.0 in
              record {
                valid = if_node a.tree a.yes_tree a.no_tree c₃.valid t₃.valid f₃.valid;
                here = (
                  (head, tt),
                  (
                    subst (λ (i : ℕ). At z i (rose_e a.tree)) past c₃.here,
                    (
                      subst (λ (i : ℕ). At z i (rose_e a.yes_tree)) second t₃.here,
                      (subst (λ (i : ℕ). At z i (rose_e a.no_tree)) third f₃.here, tt),
                    ),
                  ),
                );
                ends = omega (arith, third, f₃.ends);
              }

          pub if_written : WriteDone w z at end arms top r
          if_written = record {
            frame = same_trans sx (same_less top (omega (arith, third)) g.frame);
            right = λ c t f i s.
                let m : a.tree ≡ c = is_only a.is i (omega (arith, a.below, a.room)) in
                let n : a.yes_tree ≡ t =
                is_only a.armed.yes_is s.yes_is (omega (arith, a.armed.yes_below, a.room)) in
                let o : a.no_tree ≡ f =
                is_only a.armed.no_is s.no_is (omega (arith, a.armed.no_below, a.room)) in
                let whole : if_then a.tree a.yes_tree a.no_tree ≡ if_then c t f = cc in
                subst (Is z top r) whole made;
          }

-- ---- what the check applies

pub ruleset asks = (head_ask, condition_ask, yes_ask, no_ask)
