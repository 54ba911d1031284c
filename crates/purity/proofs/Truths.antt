-- Truth by kinds: what each way of `known_end` and `plain_end` answers is the truth of whatever expression stands
-- there.
-- Assumes nothing.
use mathlib.Core.Bool.{Bool, true, false, cond, not, ◌&&◌, true≢false}
use mathlib.Core.List.{List, [], ◌∷◌}
use mathlib.Core.Path.{◌≡◌, refl, ap, ap₂, sym, subst, ◌∙◌}
use Rattle.std.specs.Prelude.{Option, Some, None}
use Prim.Native.Nat.{ℕ, zero, suc, ◌+◌, ◌*◌, ◌≤◌, ◌<◌}
use native.Mathlib.Decide.{ℕ_discrete, dec_le}
use native.Mathlib.Nat.{add-zero}
use native.Mathlib.Omega.{arith}
use borrow.Author.Tests.{eq-eqb, ne_eqb, eqb-true, eqb-false, leb-true, not-true, not-false}
use lib.Dec.{eqb}
use lib.ListN.{length, get_or}
use Rattle.spec.specs.Rose.{Rose, Roses, node, nil, cons, size, sizes, Words, At, Ats, own_of, parts_of}
use Rattle.spec.specs.Rose.{count as countR}
use Rattle.spec.specs.Grammar.{kind_in, detail_in, within, expr_head, rules, part_count, Valid}
use Rattle.spec.specs.Tree.{Logic, and, or, count_e}
use Rattle.spec.specs.Meaning.{expr_of, exprs_of, part_e}
use Rattle.spec.specs.Verdict.{pure, pures, known, known_if, truth_of, opposite, joined}
use Rattle.spec.specs.Verdict.{definitely_bool, empty_iterable}
use Rattle.spec.specs.Views.{
  word_in,
  kind_of,
  detail_of,
  lead_of,
  own_pure,
  const_truth_by,
  truth_with,
  empty_by,
  bool_by,
}
use Rattle.spec.proofs.Outcomes.{neither, by_test}
use Rattle.spec.proofs.Meanings.{expr_parts}
use Rattle.spec.proofs.Views.{words_long, pure_words, truth_words, bool_words, empty_words}
use Rattle.spec.specs.declared.Sort.TheVariants as sort
use Rattle.spec.specs.declared.Truth.{Truth}
use Rattle.spec.specs.declared.Truth.TheVariants as truth
use Rattle.ir.specs.Standing.{SomeExpr, NodeOf, ValidExprs, SkipOf}
use Rattle.ir.proofs.Forests.{own_some, size_parts, skip_one}
use Rattle.purity.specs.Told.{joins, left_decides, IsPure, IsImpure, IsKnown, IsUnknown, TruthOf, BoolOf}
use Rattle.purity.specs.declared.expr.Known.{Known}
use Rattle.ir.proofs.Ranges.{expr_range}
use Rattle.purity.proofs.Parts.{no_parts, shape, parts_by, parts_at}
use Rattle.purity.proofs.PureKinds.{range, in_range, outside, not_within}

-- ---- truths

-- And (detail 0) or Or of two truths
abbrev joined_by : ℕ → Truth → Truth → Truth
joined_by d left right = joined (cond (eqb d 0) and or) left right

-- a left that is unknown or decides is the answer, any other leaves it to the right
join_unknown : (d : ℕ) (u : Truth) → joined_by d truth.Unknown u ≡ truth.Unknown
join_unknown d u = go (cond (eqb d 0) and or)
  where
    go : (l : Logic) → joined l truth.Unknown u ≡ truth.Unknown
    go and = refl
    go or = refl

join_left : (d : ℕ) (b : Bool) (u : Truth) → left_decides d b ≡ true → joined_by d (known b) u ≡ known b
join_left d true u e = simp (not-true (eqb d 0) e)
join_left d false u e = simp e

join_right : (d : ℕ) (b : Bool) (u : Truth) → left_decides d b ≡ false → joined_by d (known b) u ≡ u
join_right d true u e = simp (not-false (eqb d 0) e)
join_right d false u e = simp e

pub opposite_known : (b : Bool) → opposite (known b) ≡ known (not b)
opposite_known true = refl
opposite_known false = refl

-- ---- own words and parts by their numbers

-- own word i where it stands
own_at : (ws : List ℕ) (at : ℕ) (own : List ℕ) (i : ℕ) → i < length own → Words ws at own
    → get_or ws (at + i) 0 ≡ get_or own i 0
own_at ws at [] i h t = absurd (omega arith)
own_at ws at (x ∷ own) zero h t = ap (λ (n : ℕ). get_or ws n 0) (add-zero at) ∙ t.0
own_at ws at (x ∷ own) (suc i) h t =
    let e : at + suc i ≡ at + 1 + i = omega arith in
    ap (λ (n : ℕ). get_or ws n 0) e ∙ own_at ws (at + 1) own i (omega arith) t.1

word_at : (ws : List ℕ) (at : ℕ) (r : Rose) (i : ℕ) → i < length (own_of r) → At ws at r
    → get_or ws (at + i) 0 ≡ word_in r i
word_at ws at (node t own ps) i h a = own_at ws at own i h a.0

no_parts_pure : (ps : Roses) → countR ps ≡ 0 → pures (exprs_of ps) ≡ true
unfolding pures exprs_of
no_parts_pure nil e = refl
no_parts_pure (cons p ps) e = absurd (omega arith)

count_exprs : (ps : Roses) → count_e (exprs_of ps) ≡ countR ps
unfolding exprs_of
count_exprs nil = refl
count_exprs (cons p ps) = ap suc (count_exprs ps)

-- an other constant has a second payload word; no other constant's truth or emptiness looks at one
second_word : (ws : List ℕ) (at : ℕ) (r : Rose) → Valid sort.Expr r → At ws at r → 1 ≡ kind_of r → 6 ≡ detail_of r
    → get_or ws (at + 2) 0 ≡ word_in r 2
second_word ws at r v a k d =
    let long = words_long r v
    ∙ ap₂ (λ (x y : ℕ). 1 + length (rules x y (word_in r 1))) (sym k) (sym d) in
    word_at ws at r 2 (omega (arith, long)) a

class_most : (r : Rose) → Valid sort.Expr r → 1 ≡ kind_of r → detail_of r ≤ 6
class_most (node t [] ps) v k = absurd v.1
class_most (node t (h ∷ pay) ps) v k =
    leb-true (detail_in h) 6 (ap (λ (x : ℕ). expr_head x (detail_in h)) k ∙ v.1.head)

-- the truth of no other class looks at the second word
other_class : (d w x y : ℕ) → d ≤ 6 → (d ≡ 6 → x ≡ y) → const_truth_by d w x ≡ const_truth_by d w y
other_class d w x y most same =
    elim (ℕ_discrete d 6)
    [ yes e ↦ ap (const_truth_by d w) (same e) | no h ↦ elim (ℕ_discrete d 0) [ yes z ↦ rw z | no z ↦ low h z ] ]
  where
    low : (d ≡ 6 → ⊥) → (d ≡ 0 → ⊥) → const_truth_by d w x ≡ const_truth_by d w y
    low h z =
        let test = ne_eqb d 0 z in
        by_test _ (within 1 3 d) (λ e. simp (test, e))
        (λ e. elim (dec_le d 3) [
          | yes l ↦ absurd (true≢false (sym (range 1 3 d (omega arith) l) ∙ e))
          | no g ↦ simp (test, e, range 4 5 d (omega arith) (omega arith))
        ])

-- the one part of the Not r at `at`, with its part at `first`
record Inner (ws : List ℕ) (at first : ℕ) (r : Rose) : Type 0 where
  part : Rose
  valid : Valid sort.Expr part
  here : At ws first part
  so : truth_of (expr_of r) ≡ opposite (truth_of (expr_of part))
  ends : at + size r ≡ first + size part

-- the two sides of the And or Or r at `at`, with its first part at `first`
record Sides (ws : List ℕ) (at d first : ℕ) (r : Rose) : Type 0 where
  left : Rose
  right : Rose
  left_valid : Valid sort.Expr left
  right_valid : Valid sort.Expr right
  left_here : At ws first left
  right_here : At ws (first + size left) right
  so : truth_of (expr_of r)
      ≡ joined_by d (truth_of (expr_of left)) (truth_of (expr_of right))
  ends : at + size r ≡ first + size left + size right

module _ {ws : List ℕ} {at k d w first n : ℕ} (o : NodeOf ws at k d w first n) where
  -- the truth by the node's numbers
  truth_by_lem : (r : Rose) → Valid sort.Expr r → At ws at r
      → truth_of (expr_of r) ≡ truth_with k d w (word_in r 2) (exprs_of (parts_of r))
  truth_by_lem r v a =
      let h = shape o r v a in
      truth_words r v
      ∙ ap₂ (λ (x y : ℕ). truth_with x y (word_in r 1) (word_in r 2) (exprs_of (parts_of r))) (sym h.is_kind)
      (sym h.is_detail)
      ∙ ap (λ (x : ℕ). truth_with k d x (word_in r 2) (exprs_of (parts_of r))) (sym h.is_word)

  ends : (r : Rose) → Valid sort.Expr r → At ws at r → at + size r ≡ first + sizes (parts_of r)
  ends r v a = omega (arith, (shape o r v a).is_first, size_parts r)

  -- ---- the ways of the truth

  pub const_way : (second : ℕ) → k ≡ 1 → second ≡ get_or ws (at + 2) 0
      → IsKnown ws at (const_truth_by d w second) first
  const_way second k1 es = record {
    of = λ r v a.
        let h = shape o r v a in
        let one : 1 ≡ kind_of r = sym k1 ∙ h.is_kind in
        let none : sizes (parts_of r) ≡ 0 = no_parts (parts_of r)
        (parts_by o r v a ∙ ap (λ (x : ℕ). part_count x d w) k1) in
        let word : const_truth_by d w second ≡ const_truth_by d w (word_in r 2) =
        other_class d w second (word_in r 2) (subst (λ (x : ℕ). x ≤ 6) (sym h.is_detail) (class_most r v one))
        (λ e. es ∙ second_word ws at r v a one (sym e ∙ h.is_detail)) in (
          truth_by_lem r v a
              ∙ ap (λ (x : ℕ). truth_with x d w (word_in r 2) (exprs_of (parts_of r))) k1
              ∙ ap known (sym word),
          omega (arith, ends r v a),
        );
  }

  -- the purity by the node's numbers
  pure_own : (r : Rose) → Valid sort.Expr r → At ws at r
      → pure (expr_of r) ≡ own_pure k d w (lead_of (parts_of r)) && pures (exprs_of (parts_of r))
  pure_own r v a =
      let h = shape o r v a in
      pure_words r v
      ∙ ap (λ (b : Bool). b && pures (exprs_of (parts_of r)))
      (ap₂ (λ (x y : ℕ). own_pure x y (word_in r 1) (lead_of (parts_of r))) (sym h.is_kind) (sym h.is_detail)
      ∙ ap (λ (x : ℕ). own_pure k d x (lead_of (parts_of r))) (sym h.is_word))

  -- a list, a tuple or a dict that is pure is true where its detail tells of parts
  list_truth : within 6 7 k ≡ true → (r : Rose) → Valid sort.Expr r → At ws at r
      → truth_of (expr_of r) ≡ known_if (pure (expr_of r)) (not (eqb d 0))
  list_truth e r v a =
      let es = exprs_of (parts_of r) in
      let other : eqb k 1 ≡ false = ne_eqb k 1 (λ z. let low = (in_range 6 7 k e).0 in omega arith) in
      let own : own_pure k d w (lead_of (parts_of r)) ≡ true = simp (other, e) in
      let many : count_e es ≡ d = count_exprs (parts_of r) ∙ parts_by o r v a ∙ simp e in
      let shown : truth_with k d w (word_in r 2) es ≡ known_if (pures es) (not (eqb (count_e es) 0)) =
      simp (other, e) in
      truth_by_lem r v a
      ∙ shown
      ∙ ap₂ (λ (b : Bool) (m : ℕ). known_if b (not (eqb m 0)))
      (sym (pure_own r v a ∙ ap (λ (b : Bool). b && pures es) own)) many

  dict_truth : k ≡ 8 → (r : Rose) → Valid sort.Expr r → At ws at r
      → truth_of (expr_of r) ≡ known_if (pure (expr_of r)) (not (eqb d 0))
  dict_truth e r v a =
      let es = exprs_of (parts_of r) in
      let many : countR (parts_of r) ≡ 2 * d = parts_by o r v a ∙ ap (λ (x : ℕ). part_count x d w) e in
      let all = pure_own r v a ∙ ap (λ (x : ℕ). own_pure x d w (lead_of (parts_of r)) && pures es) e in
      truth_by_lem r v a ∙ ap (λ (x : ℕ). truth_with x d w (word_in r 2) es) e
      ∙ sym (ap (λ (b : Bool). known_if b (not (eqb d 0))) all
      ∙ by_test _ (eqb d 0)
      (λ z. let none : countR (parts_of r) ≡ 0 = omega (arith, many, eqb-true d 0 z) in
      simp (z, eq-eqb (count_e es) 0 (count_exprs (parts_of r) ∙ none), no_parts_pure (parts_of r) none))
      (λ z. simp (
        z,
        ne_eqb (count_e es) 0
            (λ y. eqb-false d 0 z (omega (arith, many, count_exprs (parts_of r), y))),
      )))

  module _ (e : within 6 8 k ≡ true) where
    shown_truth : (r : Rose) → Valid sort.Expr r → At ws at r
        → truth_of (expr_of r) ≡ known_if (pure (expr_of r)) (not (eqb d 0))
    shown_truth =
        by_test _ (within 6 7 k) list_truth
        (λ f. let b = in_range 6 8 k e in
        dict_truth (elim (dec_le k 7) [ yes l ↦ absurd (outside 6 7 k f b.0 l) | no g ↦ omega (arith, b.1) ]))

    shown_known : {b : Bool} {next : ℕ} → not (eqb d 0) ≡ b → IsPure ws at next → IsKnown ws at b next
    shown_known e q = record {
      of = λ r v a.
          let told = q.of r v a in
          (shown_truth r v a ∙ ap₂ known_if told.0 e, told.1);
    }

    pub shown_true : {next : ℕ} → (d ≡ 0 → ⊥) → IsPure ws at next → IsKnown ws at true next
    shown_true z = shown_known (ap not (ne_eqb d 0 z))

    pub shown_false : {next : ℕ} → d ≡ 0 → IsPure ws at next → IsKnown ws at false next
    shown_false z = shown_known (ap not (eq-eqb d 0 z))

    pub shown_open : IsImpure ws at → IsUnknown ws at
    shown_open q = record {
      of = λ r v a. shown_truth r v a ∙ ap (λ (b : Bool). known_if b (not (eqb d 0))) (q.of r v a);
    }

  -- the one part of a Not, and its truth turned round
  module _ (k11 : k ≡ 11) (d3 : d ≡ 3) where
    inner : (r : Rose) → Valid sort.Expr r → At ws at r → Inner ws at first r
    unfolding exprs_of
    inner r v a = go (parts_of r) refl (expr_parts r v) (parts_at o r v a)
        (parts_by o r v a ∙ ap (λ (y : ℕ). part_count y d w) k11)
        (ends r v a)
      where
        go : (ps : Roses) → parts_of r ≡ ps → ValidExprs ps → Ats ws first ps → countR ps ≡ 1
            → at + size r ≡ first + sizes ps
            → Inner ws at first r
        go nil e vs hs m z = absurd (omega arith)
        go (cons p nil) e vs hs m z = record {
          part = p;
          valid = vs.0;
          here = hs.0;
          so = truth_by_lem r v a
              ∙ ap₂ (λ (x : ℕ) (qs : Roses). truth_with x d w (word_in r 2) (exprs_of qs)) k11 e
              ∙ ap (λ (x : ℕ). truth_with 11 x w (word_in r 2) (exprs_of (cons p nil))) d3;
          ends = omega arith;
        }
        go (cons p (cons y ys)) e vs hs m z = absurd (omega arith)

    pub not_asks : SomeExpr ws at → SomeExpr ws first
    not_asks x =
        let i = inner x.tree x.valid x.here in
        record { tree = i.part; valid = i.valid; here = i.here; inside = omega (arith, i.ends, x.inside) }

    pub not_known : {b : Bool} {next : ℕ} → IsKnown ws first b next → IsKnown ws at (not b) next
    not_known {b} q = record {
      of = λ r v a.
          let i = inner r v a in
          let told = q.of i.part i.valid i.here in
          (i.so ∙ ap opposite told.0 ∙ opposite_known b, omega (arith, i.ends, told.1));
    }

    pub not_open : IsUnknown ws first → IsUnknown ws at
    not_open q = record {
      of = λ r v a.
          let i = inner r v a in
          i.so ∙ ap opposite (q.of i.part i.valid i.here);
    }

  -- And and Or

  sides : k ≡ 12 → (r : Rose) → Valid sort.Expr r → At ws at r → Sides ws at d first r
  unfolding exprs_of
  sides k12 r v a = go (parts_of r) refl (expr_parts r v) (parts_at o r v a)
      (parts_by o r v a ∙ ap (λ (y : ℕ). part_count y d w) k12)
      (ends r v a)
    where
      go : (ps : Roses) → parts_of r ≡ ps → ValidExprs ps → Ats ws first ps → countR ps ≡ 2
          → at + size r ≡ first + sizes ps
          → Sides ws at d first r
      go nil e vs hs m z = absurd (omega arith)
      go (cons x nil) e vs hs m z = absurd (omega arith)
      go (cons x (cons y nil)) e vs hs m z = record {
        left = x;
        right = y;
        left_valid = vs.0;
        right_valid = vs.1.0;
        left_here = hs.0;
        right_here = hs.1.0;
        so = truth_by_lem r v a ∙ ap₂ (λ (i : ℕ) (qs : Roses). truth_with i d w (word_in r 2) (exprs_of qs)) k12 e;
        ends = omega arith;
      }
      go (cons x (cons y (cons b bs))) e vs hs m z = absurd (omega arith)

  module _ (k12 : k ≡ 12) where
    pub left_asks : SomeExpr ws at → SomeExpr ws first
    left_asks x =
        let b = sides k12 x.tree x.valid x.here in
        record {
          tree = b.left;
          valid = b.left_valid;
          here = b.left_here;
          inside = omega (arith, b.ends, x.inside);
        }

    pub unknown_way : IsUnknown ws first → IsUnknown ws at
    unknown_way q = record {
      of = λ r v a.
          let b = sides k12 r v a in
          let right = truth_of (expr_of b.right) in
          b.so
          ∙ ap (λ (x : Truth). joined_by d x right) (q.of b.left b.left_valid b.left_here)
          ∙ join_unknown d right;
    }

    module _ {left : Bool} {middle : ℕ} (q : IsKnown ws first left middle) where
      -- the truth by that of the right side, which stands behind the left
      by_right : (r : Rose) (b : Sides ws at d first r)
          → truth_of (expr_of r) ≡ joined_by d (known left) (truth_of (expr_of b.right))
      by_right r b =
          b.so ∙ ap (λ (x : Truth). joined_by d x (truth_of (expr_of b.right)))
          (q.of b.left b.left_valid b.left_here).0

      right_at : (r : Rose) (b : Sides ws at d first r) → (middle ≡ first + size b.left) × At ws middle b.right
      right_at r b =
          let end = (q.of b.left b.left_valid b.left_here).1 in
          (end, subst (λ (i : ℕ). At ws i b.right) (sym end) b.right_here)

      pub right_asks : SomeExpr ws at → SomeExpr ws middle
      right_asks x =
          let b = sides k12 x.tree x.valid x.here in
          let behind = right_at x.tree b in
          record {
            tree = b.right;
            valid = b.right_valid;
            here = behind.1;
            inside = omega (arith, b.ends, x.inside, behind.0);
          }

      pub decided_way : {next : ℕ} → left_decides d left ≡ true → SkipOf ws middle 1 next → IsKnown ws at left next
      decided_way e p = record {
        of = λ r v a.
            let b = sides k12 r v a in
            let behind = right_at r b in (
              by_right r b ∙ join_left d left (truth_of (expr_of b.right)) e,
              omega (arith, b.ends, behind.0, skip_one b.right b.right_valid behind.1 p),
            );
      }

      pub right_way : left_decides d left ≡ false → (u : Option Known) → TruthOf ws middle u → TruthOf ws at u
      right_way e (Some u) p = record {
        of = λ r v a.
            let b = sides k12 r v a in
            let behind = right_at r b in
            let told = p.of b.right b.right_valid behind.1 in (
              by_right r b ∙ join_right d left (truth_of (expr_of b.right)) e ∙ told.0,
              omega (arith, b.ends, behind.0, told.1),
            );
      }
      right_way e None p = record {
        of = λ r v a.
            let b = sides k12 r v a in
            by_right r b ∙ join_right d left (truth_of (expr_of b.right)) e
            ∙ p.of b.right b.right_valid (right_at r b).1;
      }

  -- ---- every other kind

  pub other_way : (k ≡ 1 → ⊥) → within 6 8 k ≡ false → joins k d ≡ false → IsUnknown ws at
  other_way k1 k678 j = record {
    of = λ r v a.
        let es = exprs_of (parts_of r) in
        truth_by_lem r v a
        ∙ simp (
          ne_eqb k 1 k1,
          not_within 6 7 k (λ l h. out l (omega arith)),
          ne_eqb k 8 (λ e. out (omega arith) (omega arith)),
          both_sides.0,
        )
        (unknown (truth_of (part_e 0 es)));
  }
    where
      out : 6 ≤ k → k ≤ 8 → ⊥
      out = outside 6 8 k k678

      both_sides : (eqb k 12 ≡ false) × (eqb k 11 && eqb d 3 ≡ false)
      both_sides = neither (eqb k 12) (eqb k 11 && eqb d 3) j

      unknown : (x : Truth) → cond (eqb k 11) (cond (eqb d 3) (opposite x) truth.Unknown) truth.Unknown ≡ truth.Unknown
      unknown x =
          by_test _ (eqb k 11) (λ f. simp (f, sym (ap (λ (b : Bool). b && eqb d 3) f) ∙ both_sides.1)) (λ f. simp f)

  -- ---- empty iterables

  -- the emptiness of no constant but an other looks at the second word
  other_empty : (x y : ℕ) → (k ≡ 1 → d ≡ 6 → x ≡ y) → empty_by k d x ≡ empty_by k d y
  other_empty x y same =
      by_test _ (eqb k 1)
      (λ e. by_test _ (eqb d 6) (λ g. ap (empty_by k d) (same (eqb-true k 1 e) (eqb-true d 6 g))) (λ g. simp (e, g)))
      (λ e. simp e)

  pub empty_way : {second : ℕ} {b : Bool} → second ≡ get_or ws (at + 2) 0 → b ≡ empty_by k d second
      → BoolOf empty_iterable ws at b
  empty_way {second} es is = record {
    of = λ r v a.
        let h = shape o r v a in
        is ∙ other_empty second (word_in r 2)
        (λ k1 d6. es ∙ second_word ws at r v a (sym k1 ∙ h.is_kind) (sym d6 ∙ h.is_detail))
        ∙ ap₂ (λ (x y : ℕ). empty_by x y (word_in r 2)) h.is_kind h.is_detail
        ∙ sym (empty_words r v);
  }

-- ---- definitely bool, by the header alone

pub bool_way : {ws : List ℕ} {at k d : ℕ} {b : Bool} → k ≡ kind_in (get_or ws at 0) → d ≡ detail_in (get_or ws at 0)
    → b ≡ bool_by k d
    → BoolOf definitely_bool ws at b
bool_way {ws} {at} ek ed is = record {
  of = λ r v a.
      let h : get_or ws at 0 ≡ word_in r 0 = ap (λ (i : ℕ). get_or ws i 0) (sym (add-zero at))
      ∙ word_at ws at r 0 (own_some r v) a in
      is ∙ ap₂ bool_by (ek ∙ ap kind_in h) (ed ∙ ap detail_in h) ∙ sym (bool_words r v);
}

-- what the check applies in `is_definitely_bool`
pub ruleset by_header = (expr_range, bool_way)

-- ---- parts stand behind their node, and inside

pub node_past : {ws : List ℕ} {at k d w first n : ℕ} → SomeExpr ws at → NodeOf ws at k d w first n
    → (at < first) × (first ≤ length ws)
node_past x o =
    let h = o.of sort.Expr x.tree refl x.valid x.here in (
      omega (arith, h.is_first, own_some x.tree x.valid),
      omega (arith, h.is_first, size_parts x.tree, x.inside),
    )

-- where its truth is known, an expression's end is behind its place
pub known_past : {ws : List ℕ} {at : ℕ} {b : Bool} {next : ℕ} → SomeExpr ws at → IsKnown ws at b next → at < next
known_past x q =
    let end = (q.of x.tree x.valid x.here).1 in
    omega (arith, end, own_some x.tree x.valid, size_parts x.tree)
