-- What is written: a statement of an expression, a list with its count word, and an If.
-- Assumes nothing.
use mathlib.Core.List.{List, [], ◌∷◌}
use mathlib.Core.Logic.{inr}
use mathlib.Core.Path.{◌≡◌, refl, subst, ◌∙◌}
use Prim.Native.Nat.{ℕ, ◌+◌, ◌≤◌, ◌<◌, ◌^◌}
use native.Mathlib.Omega.{arith}
use lib.ListN.{length, get_or}
use Rattle.spec.specs.Rose.{size, At, Ats}
use Rattle.spec.specs.Tree.{Expr, expr, if_stmt, rose_e, rose_l, roses_s}
use Rattle.spec.specs.PassStmts.{is_exit}
use Rattle.spec.specs.Weight.{row_words}
use Rattle.ir.specs.Written.{Written}
use Rattle.buffer.specs.Copy.{Same, PutAsk, PutDone}
use Rattle.buffer.proofs.Frames.{same_trans, same_less, same_at}
use Rattle.expr_forms.specs.Made.{Is}
use Rattle.runs.specs.Held.{SingleDone, OneAsk, OneDone, ListAsk, ListDone, WriteAsk, WriteDone}
use Rattle.expr_bool.specs.declared.Arms.{Arms}
use Rattle.runs.specs.declared.Run.{Run}
use Rattle.spec.proofs.Counts.{row_counts}
use Rattle.expr_forms.proofs.Moves.{is_same, is_put}
use Rattle.runs.proofs.Holding.{holds_same, holds_put}

-- ---- a header with the expression from `at` up to `end` behind it

record Begun (w u : List ℕ) (at end top h last : ℕ) : Type 0 where
  frame : Same top w u
  head : get_or u top 0 ≡ h
  is : (e : Expr) → Is w at end e → Is u (top + 1) last e

module _ {w v : List ℕ} {top h body : ℕ} (d : Written w v top (h ∷ []) body) {at end : ℕ} (below : end ≤ top) where
  body_put : {e : Expr} → length v ≡ length w → Is w at end e → top + 1 + size (rose_e e) ≤ length w
      → PutAsk (length v) at end body
  body_put l i r = record {
    order = omega (arith, i.ends);
    apart = inr (omega (arith, d.ends, below));
    within = omega (arith, below, r, l);
    room = omega (arith, d.ends, i.ends, r, l);
  }

  begun : {u : List ℕ} {last : ℕ} → PutDone v u at end body last → Begun w u at end top h last
  begun {u} {last} p =
      let s : Same top w v = record { word = λ k g. d.below k g } in record {
        frame = same_trans s (same_less top (omega (arith, d.ends)) p.frame);
        head = p.frame.word top (omega (arith, d.ends)) ∙ d.here.0;
        is = λ e i.
            subst (λ (k : ℕ). Is u k last e) d.ends (is_put p (is_same s below i));
      }

-- ---- write_expr

module _ {w : List ℕ} {at end top : ℕ} (a : OneAsk w at end top) {v : List ℕ} {body : ℕ} where
  pub one_put : {h : ℕ} → Written w v top (h ∷ []) body → length v ≡ length w → PutAsk (length v) at end body
  one_put d l = body_put d a.below l a.is a.room

  pub one_done : Written w v top (34 ∷ []) body → {u : List ℕ} {last : ℕ} → PutDone v u at end body last
      → {r : Run} → SingleDone top last r → OneDone w u at end top r
  unfolding is_exit
  one_done d {u} p q =
      let b = begun d a.below p in record {
        frame = b.frame;
        begins = q.begins;
        right = λ e i.
            let y = b.is e i in
            q.right u (expr e) ((b.head, tt), (y.here, tt)) (omega (arith, y.ends)) refl;
      }

-- ---- write_list

module _ {w : List ℕ} {run : Run} {top : ℕ} (a : ListAsk w run top) where
  module _ {v : List ℕ} {body : ℕ} (d : Written w v top (run.count ∷ []) body) where
    pub list_put : length v ≡ length w → PutAsk (length v) run.at run.end body
    list_put l = record {
      order = omega (arith, a.holds.ends);
      apart = inr (omega (arith, a.below, d.ends));
      within = omega (arith, a.below, a.room, l);
      room = omega (arith, a.holds.ends, a.room, d.ends, l);
    }

    pub list_done : {u : List ℕ} {last : ℕ} → PutDone v u run.at run.end body last → ListDone w u run top last
    list_done {u} {last} p =
        let s : Same top w v = record { word = λ k g. d.below k g } in record {
          frame = same_trans s (same_less top (omega (arith, d.ends)) p.frame);
          right = λ ss h.
              let y = holds_put {run = run} p (holds_same s a.below h) in (
                (
                  (p.frame.word top (omega (arith, d.ends)) ∙ d.here.0 ∙ h.counts, tt),
                  subst (λ (k : ℕ). Ats u k (roses_s ss)) d.ends y.here,
                ),
                omega (arith, y.ends, d.ends),
              );
        }

-- ---- write_if

module _ {w : List ℕ} {at end : ℕ} {arms : Arms Run} {top : ℕ} (a : WriteAsk w at end arms top)
    {v : List ℕ} {body : ℕ} (d : Written w v top (37 ∷ []) body) where
  pub if_put : length v ≡ length w → PutAsk (length v) at end body
  if_put l = body_put d a.below l a.is (omega (arith, a.room))

  module _ {u : List ℕ} {lists : ℕ} (p : PutDone v u at end body lists) where
    here_u : Begun w u at end top 37 lists
    here_u = begun d a.below p

    lists_is : lists ≡ top + 1 + size (rose_e a.tree)
    lists_is = (here_u.is a.tree a.is).ends

    pub yes_ask : length u ≡ length w → ListAsk u arms.yes lists
    yes_ask l = record {
      list = a.yes_list;
      holds = holds_same here_u.frame a.yes_below a.yes_holds;
      below = omega (arith, lists_is, a.yes_below);
      room = omega (arith, lists_is, a.room, l);
      short = omega (arith, a.short, l);
    }

    module _ {x : List ℕ} {other : ℕ} (q : ListDone u x arms.yes lists other) where
      frame_x : Same top w x
      frame_x = same_trans here_u.frame (same_less top (omega (arith, lists_is)) q.frame)

      other_is : other ≡ lists + 1 + row_words a.yes_list
      other_is =
          let y = q.right a.yes_list (holds_same here_u.frame a.yes_below a.yes_holds) in
          omega (arith, y.1)

      pub no_ask : length x ≡ length w → ListAsk x arms.no other
      no_ask l = record {
        list = a.no_list;
        holds = holds_same frame_x a.no_below a.no_holds;
        below = omega (arith, lists_is, other_is, a.no_below);
        room = omega (arith, lists_is, other_is, a.room, l);
        short = omega (arith, a.short, l);
      }

      pub if_done : {z : List ℕ} {last : ℕ} → ListDone x z arms.no other last
          → {s : Run} → SingleDone top last s → WriteDone w z at end arms top s
      unfolding is_exit
      if_done {z} {last} r one = record {
        frame = same_trans frame_x (same_less top (omega (arith, lists_is, other_is)) r.frame);
        begins = one.begins;
        right = λ c t f i j k.
            let c₁ = here_u.is c i in
            let c₂ = is_same r.frame (omega (arith, other_is)) (is_same q.frame (omega arith) c₁) in
            let t₁ = q.right t (holds_same here_u.frame a.yes_below j) in
            let t₂ = same_at (rose_l t) lists (omega (arith, t₁.1)) r.frame t₁.0 in
            let f₁ = r.right f (holds_same frame_x a.no_below k) in
            let head =
            r.frame.word top (omega (arith, lists_is, other_is))
            ∙ q.frame.word top (omega (arith, lists_is))
            ∙ here_u.head in
            let e₁ : lists ≡ top + 1 + size (rose_e c) = c₂.ends in
            let e₂ : other ≡ top + 1 + size (rose_e c) + size (rose_l t) = omega (arith, e₁, t₁.1) in
            one.right z (if_stmt c t f) (
              (head, tt),
              (
                c₂.here,
                (
                  subst (λ (m : ℕ). At z m (rose_l t)) e₁ t₂,
                  (subst (λ (m : ℕ). At z m (rose_l f)) e₂ f₁.0, tt),
                ),
              ),
            ) (omega (arith, e₂, f₁.1)) refl;
      }
