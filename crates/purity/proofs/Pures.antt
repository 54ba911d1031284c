-- Purity part by part: the loop of `pure_end` over the parts of a node.
-- Assumes nothing.
use mathlib.Core.Bool.{Bool, true, false, ◌&&◌, true≢false}
use mathlib.Core.List.{List, [], ◌∷◌}
use mathlib.Core.Path.{◌≡◌, refl, ap, ap₂, sym, subst, ◌∙◌}
use Prim.Native.Nat.{ℕ, suc, ◌+◌, ◌-◌, ◌≤◌, ◌<◌}
use native.Mathlib.Nat.{sub-zero}
use native.Mathlib.Omega.{arith}
use borrow.Author.Tests.{eqb-true}
use lib.Dec.{eqb}
use lib.ListN.{length, get_or}
use Rattle.std.specs.Prelude.{Option, Some, None, is_some}
use Rattle.spec.specs.Rose.{Rose, Roses, node, nil, cons, size, sizes, At, Ats, parts_of}
use Rattle.spec.specs.Rose.{count as countR}
use Rattle.spec.specs.Grammar.{Valid, bit, part_count}
use Rattle.spec.specs.Meaning.{expr_of, exprs_of}
use Rattle.spec.specs.Verdict.{pure, pures, truth_of}
use Rattle.spec.specs.Views.{word_in, kind_of, detail_of, lead_of, own_pure}
use Rattle.spec.proofs.Meanings.{expr_parts}
use Rattle.spec.proofs.Outcomes.{by_test}
use Rattle.spec.proofs.Views.{pure_words, words_parts}
use Rattle.spec.specs.declared.Sort.TheVariants as sort
use Rattle.tables.specs.Kinds.{expr_number}
use Rattle.tables.specs.declared.exprs.ExprKind.{ExprKind}
use Rattle.ir.specs.Standing.{SomeExpr, SomeNode, SomeNodeOf, IsExpr, Shape, NodeOf, ValidExprs}
use Rattle.ir.specs.declared.tree.Node.{Node}
use Rattle.ir.proofs.Nodes.{node_of, node_inside}
use Rattle.ir.proofs.Forests.{from, own_some, size_parts, at_parts}
use Rattle.purity.specs.Told.{may_be_pure, IsPure, IsImpure, PureOf, TruthOf, told_truth}
use Rattle.purity.specs.declared.expr.Known.{Known}
use Rattle.purity.proofs.PureKinds.{never_pure}

-- an expression is a node
pub some_node : {ws : List ℕ} {at : ℕ} → SomeExpr ws at → SomeNode ws at
some_node x = record
    { sort = sort.Expr; node = refl; tree = x.tree; valid = x.valid; here = x.here; inside = x.inside }

-- it begins inside
pub expr_inside : {ws : List ℕ} {at : ℕ} → SomeExpr ws at → at < length ws
expr_inside x = node_inside (some_node x)

-- a node's numbers, under the kind and the detail that were read in its header
pub node_read : {ws : List ℕ} {at k d j e w first n : ℕ} → SomeNodeOf ws at k d → NodeOf ws at j e w first n
    → NodeOf ws at k d w first n
node_read x o = record {
  of = λ s r e v a.
      let head = (node_of x refl refl refl).of s r e v a in
      let h = o.of s r e v a in
      record {
        is_kind = head.is_kind;
        is_detail = head.is_detail;
        is_word = h.is_word;
        is_first = h.is_first;
        is_count = h.is_count;
      };
}

pub expr_read : {ws : List ℕ} {at k d : ℕ} (x : Node ExprKind) → SomeNodeOf ws at k d → IsExpr ws at x
    → NodeOf ws at k d x.word x.first x.count
expr_read x s o = node_read {j = expr_number x.kind} {e = x.detail} s o

-- what was found, by whether there is an end (also for the crates above)
pub an_end : (ws : List ℕ) (at : ℕ) (p : Option ℕ) (b : Bool) → b ≡ is_some p → b ≡ true → PureOf ws at p
    → (next : ℕ) × IsPure ws at next
an_end ws at (Some next) b same e o = (next, o)
an_end ws at None b same e o = absurd (true≢false (sym e ∙ same))

pub no_end : (ws : List ℕ) (at : ℕ) (p : Option ℕ) (b : Bool) → b ≡ is_some p → b ≡ false → PureOf ws at p
    → IsImpure ws at
no_end ws at (Some next) b same e o = absurd (true≢false (sym same ∙ e))
no_end ws at None b same e o = o

-- as the verdict itself (also for the crates above)
pub pure_told : (ws : List ℕ) (at : ℕ) (p : Option ℕ) → PureOf ws at p → (r : Rose) → Valid sort.Expr r → At ws at r
    → is_some p ≡ pure (expr_of r)
pure_told ws at (Some next) o r v a = sym (o.of r v a).0
pure_told ws at None o r v a = sym (o.of r v a)

pub truth_told : (ws : List ℕ) (at : ℕ) (p : Option Known) → TruthOf ws at p → (r : Rose) → Valid sort.Expr r
    → At ws at r
    → told_truth p ≡ truth_of (expr_of r)
truth_told ws at (Some k) o r v a = sym (o.of r v a).0
truth_told ws at None o r v a = sym (o.of r v a)

-- the first word of the first part: a call has one, and of no other node it is looked at
lead_word : (ws : List ℕ) (k d w first : ℕ) (ps : Roses) → countR ps ≡ part_count k d w → ValidExprs ps
    → Ats ws first ps
    → own_pure k d w (lead_of ps) ≡ own_pure k d w (get_or ws first 0)
lead_word ws k d w first nil m v a =
    by_test _ (eqb k 16)
    (λ t.
    let many : 0 ≡ 1 + d + bit 65536 w + bit 131072 w = m ∙ ap (λ (x : ℕ). part_count x d w) (eqb-true k 16 t) in
    absurd (omega (arith, many)))
    (λ t. simp t)
lead_word ws k d w first (cons (node t [] qs) ps) m v a = absurd v.0.1
lead_word ws k d w first (cons (node t (h ∷ pay) qs) ps) m v a = ap (own_pure k d w) (sym a.0.0.0)

-- a node's purity by its numbers
pure_by : (ws : List ℕ) (at k d w first n lead : ℕ) (r : Rose) → Valid sort.Expr r → Ats ws first (parts_of r)
    → Shape r at k d w first n → lead ≡ get_or ws first 0
    → pure (expr_of r) ≡ own_pure k d w lead && pures (exprs_of (parts_of r))
pure_by ws at k d w first n lead r v here s l =
    pure_words r v
    ∙ ap (λ (b : Bool). b && pures (exprs_of (parts_of r)))
    (lead_word ws (kind_of r) (detail_of r) (word_in r 1) first (parts_of r) (words_parts r v) (expr_parts r v) here
    ∙ ap₂ (λ (x y : ℕ). own_pure x y (word_in r 1) (get_or ws first 0)) (sym s.is_kind) (sym s.is_detail)
    ∙ ap₂ (own_pure k d) (sym s.is_word) (sym l))

-- of the expression r at `at`, the last `left` parts stand from `next` on, and r is pure where they are
pub record Left (ws : List ℕ) (at : ℕ) (r : Rose) (next left : ℕ) : Type 0 where
  pub parts : Roses
  pub valid : ValidExprs parts
  pub many : countR parts ≡ left
  pub here : Ats ws next parts
  pub so : pure (expr_of r) ≡ pures (exprs_of parts)
  pub ends : next + sizes parts ≡ at + size r
  pub past : at < next

-- a part stands at `next` while any is left
more : (ws : List ℕ) (at : ℕ) (r : Rose) (next left : ℕ) → 0 < left → at + size r ≤ length ws → Left ws at r next left
    → SomeExpr ws next
more ws at r next left h i l = go l.parts l.valid l.many l.here l.ends
  where
    go : (ps : Roses) → ValidExprs ps → countR ps ≡ left → Ats ws next ps → next + sizes ps ≡ at + size r
        → SomeExpr ws next
    go nil v m a e = absurd (omega arith)
    go (cons q ps) v m a e = record { tree = q; valid = v.0; here = a.0; inside = omega arith }

-- one part on
step : (ws : List ℕ) (at : ℕ) (r : Rose) (next then' left : ℕ) → Left ws at r next (suc left)
    → IsPure ws next then'
    → Left ws at r then' left
unfolding pures exprs_of
step ws at r next then' left l o = go l.parts l.valid l.many l.here l.so l.ends
  where
    go : (ps : Roses) → ValidExprs ps → countR ps ≡ suc left → Ats ws next ps → pure (expr_of r) ≡ pures (exprs_of ps)
        → next + sizes ps ≡ at + size r → Left ws at r then' left
    go nil v m a s e = absurd (omega arith)
    go (cons x ps) v m a s e =
        let told = o.of x v.0 a.0 in
        let end = told.1 in
        let past = l.past in
        record {
          parts = ps;
          valid = from 1 0 ps v.1;
          many = omega arith;
          here = subst (λ (i : ℕ). Ats ws i ps) (sym end) a.1;
          so = s ∙ ap (λ (b : Bool). b && pures (exprs_of ps)) told.0;
          ends = omega (arith, end);
          past = omega (arith, end);
        }

-- a part is not pure
halt : (ws : List ℕ) (at : ℕ) (r : Rose) (next left : ℕ) → 0 < left → Left ws at r next left → IsImpure ws next
    → pure (expr_of r) ≡ false
unfolding pures exprs_of
halt ws at r next left h l o = go l.parts l.valid l.many l.here l.so
  where
    go : (ps : Roses) → ValidExprs ps → countR ps ≡ left → Ats ws next ps → pure (expr_of r) ≡ pures (exprs_of ps)
        → pure (expr_of r) ≡ false
    go nil v m a s = absurd (omega arith)
    go (cons x ps) v m a s = s ∙ ap (λ (b : Bool). b && pures (exprs_of ps)) (o.of x v.0 a.0)

-- no part is left
stop : (ws : List ℕ) (at : ℕ) (r : Rose) (next : ℕ) → Left ws at r next 0
    → (pure (expr_of r) ≡ true) × (next ≡ at + size r)
unfolding pures exprs_of
stop ws at r next l = go l.parts l.many l.so l.ends
  where
    go : (ps : Roses) → countR ps ≡ 0 → pure (expr_of r) ≡ pures (exprs_of ps) → next + sizes ps ≡ at + size r
        → (pure (expr_of r) ≡ true) × (next ≡ at + size r)
    go nil m s e = (s, omega arith)
    go (cons q ps) m s e = absurd (omega arith)

-- the loop's invariant, for every expression that stands at `at`
pub record Inv (ws : List ℕ) (at n next i : ℕ) : Type 0 where
  pub within : i ≤ n
  pub all : (r : Rose) → Valid sort.Expr r → At ws at r → Left ws at r next (n - i)

module _ {ws : List ℕ} {at k d w first n lead : ℕ} (o : NodeOf ws at k d w first n) (l : lead ≡ get_or ws first 0)
  where
    -- what the node's own words tell
    own : (b : Bool) → b ≡ own_pure k d w lead → (r : Rose) → Valid sort.Expr r → At ws at r
        → (pure (expr_of r) ≡ b && pures (exprs_of (parts_of r))) × Ats ws first (parts_of r)
    own b e r v a =
        let s = o.of sort.Expr r refl v a in
        let here : Ats ws first (parts_of r) =
        subst (λ (i : ℕ). Ats ws i (parts_of r)) (sym s.is_first) (at_parts ws at r a) in (
          pure_by ws at k d w first n lead r v here s l
              ∙ ap (λ (x : Bool). x && pures (exprs_of (parts_of r))) (sym e),
          here,
        )

    pub own_impure : false ≡ own_pure k d w lead → IsImpure ws at
    own_impure e = record { of = λ r v a. (own false e r v a).0 }

    pub inv_start : true ≡ own_pure k d w lead → Inv ws at n first 0
    inv_start e = record {
      within = omega arith;
      all = λ r v a.
          let s = o.of sort.Expr r refl v a in
          let told = own true e r v a in
          rw sub-zero (record {
            parts = parts_of r;
            valid = expr_parts r v;
            many = sym s.is_count;
            here = told.1;
            so = told.0;
            ends = omega (arith, s.is_first, size_parts r);
            past = omega (arith, s.is_first, own_some r v);
          });
    }

-- a node of a kind that no pure node has
pub kind_impure : {ws : List ℕ} {at k d : ℕ} → SomeNodeOf ws at k d → may_be_pure k ≡ false → IsImpure ws at
kind_impure x e = record {
  of = λ r v a.
      let h = (node_of x refl refl refl).of sort.Expr r refl v a in
      pure_words r v
      ∙ ap (λ (b : Bool). b && pures (exprs_of (parts_of r)))
      (never_pure (kind_of r) (detail_of r) (word_in r 1) (lead_of (parts_of r)) (ap may_be_pure (sym h.is_kind) ∙ e));
}

module _ {ws : List ℕ} {at n next i : ℕ} (v : Inv ws at n next i) where
  module _ (x : SomeExpr ws at) where
    left : Left ws at x.tree next (n - i)
    left = v.all x.tree x.valid x.here

    pub inv_asks : i < n → SomeExpr ws next
    inv_asks h = more ws at x.tree next (n - i) (omega arith) x.inside left

    pub inv_past : (at < next) × (at < length ws)
    inv_past = (left.past, omega (arith, own_some x.tree x.valid, size_parts x.tree, x.inside))

  pub inv_step : {then' : ℕ} → i < n → IsPure ws next then' → Inv ws at n then' (i + 1)
  inv_step {then'} h o =
      let e : n - i ≡ suc (n - (i + 1)) = omega arith in
      record {
        within = omega arith;
        all = λ r s a. step ws at r next then' (n - (i + 1)) (rw e at (v.all r s a)) o;
      }

  pub inv_halt : i < n → IsImpure ws next → IsImpure ws at
  inv_halt h o = record { of = λ r s a. halt ws at r next (n - i) (omega arith) (v.all r s a) o }

  pub inv_whole : n ≤ i → IsPure ws at next
  inv_whole h =
      let e : n - i ≡ 0 = omega arith in
      record { of = λ r s a. stop ws at r next (rw e at (v.all r s a)) }
