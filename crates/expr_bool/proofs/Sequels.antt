-- `seq_const` and `join`: an expression on the left of a constant, or of an expression, where its node's own words
-- stand.
-- Assumes nothing.
use mathlib.Core.Bool.{Bool, true, false, cond, beq}
use mathlib.Core.List.{List, [], ◌∷◌}
use mathlib.Core.Logic.{inl}
use mathlib.Core.Path.{◌≡◌, ap, sym, subst, ◌∙◌}
use Prim.Native.Nat.{ℕ, ◌+◌}
use native.Mathlib.Omega.{arith}
use lib.ListN.{length}
use Rattle.spec.specs.Rose.{size, At}
use Rattle.spec.specs.Grammar.{header}
use Rattle.spec.specs.Tree.{boolean, Expr, const, seq, rose_e, const_words}
use Rattle.spec.specs.Verdict.{pure}
use Rattle.spec.specs.Pass.{const_condition, expr_condition, logic_condition, seq_expr}
use Rattle.spec.specs.Pass as Pass
use Rattle.spec.proofs.Places.{at_move}
use Rattle.ir.specs.Standing.{SomeExpr}
use Rattle.ir.specs.Written.{Written}
use Rattle.purity.specs.Told.{IsPure, IsImpure}
use Rattle.purity.proofs.Exprs.{pure_here, impure_here}
use Rattle.buffer.specs.Copy.{PutAsk, PutDone}
use Rattle.buffer.proofs.Frames.{same_refl, put_at}
use Rattle.expr_bool.specs.Asked.{Answer, logic_by, Sided, Joined, JoinAsk, JoinDone, SeqAsk, SeqDone}
use Rattle.expr_bool.specs.declared.Condition.{Condition}
use Rattle.expr_bool.specs.declared.Condition.TheVariants as condition
use Rattle.expr_bool.proofs.Shapes.{decides_by}
use Rattle.expr_bool.proofs.Answers.{const_case, expr_case}

-- what `join` did, by the case that was met
pub joined_as : {w v : List ℕ} {top body end : ℕ} {o : Bool} {r s t : Condition} → r ≡ s
    → JoinDone w v top body end s o t → JoinDone w v top body end r o t
joined_as {w} {v} {top} {body} {end} {o} {r} {s} {t} e d =
    subst (λ (c : Condition). JoinDone w v top body end c o t) (sym e) d

-- ---- seq_const

-- `seq_expr` by its test
seq_by : (top : ℕ) (b : Bool) (v : List ℕ) (r : ℕ) (p : Bool) (x : Expr) → pure x ≡ p
    → (r ≡ top + size (rose_e (cond p (const (boolean b)) (seq x (const (boolean b))))))
    × At v top (rose_e (cond p (const (boolean b)) (seq x (const (boolean b)))))
    → (r ≡ top + size (rose_e (seq_expr x (const (boolean b))))) × At v top (rose_e (seq_expr x (const (boolean b))))
unfolding seq_expr
seq_by top b v r p x e t =
    subst (λ (q : Bool). (r ≡ top + size (rose_e (cond q (const (boolean b)) (seq x (const (boolean b))))))
    × At v top (rose_e (cond q (const (boolean b)) (seq x (const (boolean b)))))) (sym e) t

module _ {w : List ℕ} {top body end : ℕ} where
  pub side_some : SeqAsk w top body end → SomeExpr w body
  side_some a = record {
    tree = rose_e a.tree;
    valid = a.side.stands.valid.1;
    here = a.side.stands.here;
    inside = omega (arith, a.side.ends, a.room);
  }

  pub seq_pure : (b : Bool) {v : List ℕ} {r next : ℕ} → IsPure w body next
      → Written w v top (const_words (boolean b)) r → SeqDone w v top body end b r
  seq_pure b {v} {r} q d = record {
    frame = record { word = d.below };
    right = λ x s. seq_by top b v r true x (pure_here x s.stands.valid s.stands.here q).0 (d.ends, (d.here, tt));
  }

  pub seq_kept : SeqAsk w top body end → (b : Bool) {v u : List ℕ} {n r : ℕ} → IsImpure w body
      → Written w v top (header 13 0 ∷ []) n → Written v u end (const_words (boolean b)) r
      → SeqDone w u top body end b r
  seq_kept a b {v} {u} {n} {r} q d f = record {
    frame = record { word = λ k h. f.below k (omega (arith, a.side.ends, a.side.head)) ∙ d.below k h };
    right = λ x s. seq_by top b u r false x (impure_here x s.stands.valid s.stands.here q) (
      omega (arith, f.ends, s.head, s.ends),
      (
        (f.below top (omega (arith, s.head, s.ends)) ∙ d.here.0, tt),
        (side x s, (constant x s, tt)),
      ),
    );
  }
    where
      side : (x : Expr) → Sided w top body end x → At u (top + 1) (rose_e x)
      side x s =
          let e : body ≡ top + 1 = s.head in
          subst (λ (i : ℕ). At u i (rose_e x)) e
          (at_move (rose_e x) s.stands.here (record {
            word = λ k h. f.below (body + k) (omega (arith, s.ends))
                ∙ d.above (body + k) (omega (arith, s.head, d.ends));
          }))

      constant : (x : Expr) → Sided w top body end x → At u (top + 1 + size (rose_e x)) (rose_e (const (boolean b)))
      constant x s =
          let e : end ≡ top + 1 + size (rose_e x) = omega (arith, s.ends, s.head) in
          subst (λ (i : ℕ). At u i (rose_e (const (boolean b)))) e (f.here, tt)

-- ---- join

module _ {w : List ℕ} {top body end : ℕ} {o : Bool} where
  -- a constant on the right
  module _ {b : Bool} where
    right_by : (v : List ℕ) (r : Condition) (x : Expr) (y : Pass.Condition) (t : Bool) → beq b o ≡ t
        → Joined w top body end (condition.Const b) o x y
        → Answer v top (cond t (expr_condition (seq_expr x (const (boolean b)))) (expr_condition x)) r
        → Answer v top (logic_condition (logic_by o) (expr_condition x) y) r
    unfolding logic_condition
    right_by v r x y t h j z =
        let c : y ≡ const_condition b = const_case w end b y j.told in
        subst (λ (c : Pass.Condition). Answer v top (logic_condition (logic_by o) (expr_condition x) c) r) (sym c)
        (subst (λ (t : Bool). Answer v top (cond t (expr_condition (seq_expr x (const (boolean b))))
        (expr_condition x)) r)
        (sym (decides_by o b ∙ h)) z)

    pub join_seq : {v : List ℕ} {r : ℕ} → beq b o ≡ true → SeqDone w v top body end b r
        → JoinDone w v top body end (condition.Const b) o (condition.Expr r)
    join_seq {v} {r} h d = record {
      frame = d.frame;
      right = λ x y j.
          let t = d.right x j.side in
          right_by v (condition.Expr r) x y true h j (ap condition.Expr t.0, t.1);
    }

    pub join_left : {v : List ℕ} {r : ℕ} → beq b o ≡ false → PutDone w v body end top r
        → JoinDone w v top body end (condition.Const b) o (condition.Expr r)
    join_left {v} {r} h d = record {
      frame = d.frame;
      right = λ x y j. right_by v (condition.Expr r) x y false h j (
        ap condition.Expr (omega (arith, d.ends, j.side.ends)),
        put_at (rose_e x) j.side.ends d j.side.stands.here,
      );
    }

  pub join_put : {answer : Condition} → JoinAsk w top body end answer o → PutAsk (length w) body end top
  join_put a =
      let s = a.joined.side in
      record {
        order = omega (arith, s.ends);
        apart = inl (omega (arith, s.head));
        within = omega (arith, a.room);
        room = omega (arith, a.room, s.head, s.ends);
      }

  pub join_ask : {answer : Condition} → JoinAsk w top body end answer o → SeqAsk w top body end
  join_ask a = record { tree = a.left; side = a.joined.side; room = a.room }

  -- an expression on the right
  pub join_both : (k : ℕ) → JoinDone w w top body end (condition.Expr k) o (condition.Expr k)
  unfolding logic_condition
  join_both k = record { frame = same_refl top w; right = λ x y j. both x y j }
    where
      both : (x : Expr) (y : Pass.Condition) → Joined w top body end (condition.Expr k) o x y
          → Answer w top (logic_condition (logic_by o) (expr_condition x) y) (condition.Expr k)
      both x y j =
          let z = expr_case w end k y j.told in
          let s = j.side in
          let e : body ≡ top + 1 = s.head in
          let m : end ≡ top + 1 + size (rose_e x) = omega (arith, s.ends, s.head) in
          subst
          (λ (c : Pass.Condition). Answer w top (logic_condition (logic_by o) (expr_condition x) c) (condition.Expr k))
          (sym z.is) (
            ap condition.Expr (omega (arith, z.ends, m)),
            (
              j.own,
              (
                subst (λ (i : ℕ). At w i (rose_e x)) e s.stands.here,
                (subst (λ (i : ℕ). At w i (rose_e z.expr)) m z.here, tt),
              ),
            ),
          )
