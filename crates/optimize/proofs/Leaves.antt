-- A constant or a read: the pass leaves it as it is, it is no foldable place, and its own words are all its words.
-- Assumes nothing.
use mathlib.Core.Bool.{Bool, true, false, ◌&&◌}
use mathlib.Core.List.{List}
use mathlib.Core.Path.{◌≡◌, refl, ap, ap₂, sym, subst, ◌∙◌}
use Prim.Native.Nat.{ℕ, ◌+◌, ◌≤◌}
use native.Mathlib.Decide.{ℕ_discrete}
use native.Mathlib.Omega.{arith}
use borrow.Author.Tests.{eq-eqb, ne_eqb, le-leb, eqb-true, eqb-false}
use lib.Dec.{eqb}
use lib.ListN.{length, get_or, drop}
use Rattle.spec.specs.Rose.{Rose, node, size, At, own_of}
use Rattle.spec.specs.Grammar.{kind_in, detail_in, within, Valid}
use Rattle.spec.specs.Tree.{Const, Place, Expr, const, read, Exprs, rose_e}
use Rattle.spec.specs.Meaning.{const_of, place_of, expr_by, expr_of, exprs_of}
use Rattle.spec.specs.Views.{kind_of}
use Rattle.spec.specs.Pass.{optimize_expr}
use Rattle.spec.specs.Foldable.{foldable}
use Rattle.spec.specs.declared.Sort.{Sort}
use Rattle.spec.specs.declared.Sort.TheVariants as sort
use Rattle.spec.proofs.Heads.{within_low, within_high}
use Rattle.spec.proofs.Outcomes.{by_test}
use Rattle.spec.proofs.Meanings.{rose_expr}
use Rattle.tables.specs.Kinds.{expr_number}
use Rattle.tables.specs.Payload.{pay_count}
use Rattle.tables.specs.declared.exprs.ExprKind.{ExprKind}
use Rattle.tables.proofs.Payloads.{one_pay}
use Rattle.tables.specs.Finds.{expr_kind}
use Rattle.ir.specs.Standing.{NodeOf}
use Rattle.ir.proofs.Nodes.{some_of, leaf_of}
use Rattle.buffer.specs.Copy.{PutAsk, PutDone}
use Rattle.buffer.proofs.Frames.{put_at}
use Rattle.optimize.specs.Passed.{passed, Below, Ask, LeafAsk, NodeAsk, Passed, Done}
use Rattle.optimize.specs.declared.Optimized.{Optimized}
use Rattle.optimize.proofs.Sorts.{by_sort, target_kind}
use Rattle.optimize.proofs.Nodes.{ask_node, head_kind, own_put}

-- ---- of trees

record Leaf (e : Expr) : Type 0 where
  made : optimize_expr e ≡ e
  none : foldable e ≡ 0
  words : size (rose_e e) ≡ length (own_of (rose_e e))

const_leaf : (c : Const) → Leaf (const c)
unfolding optimize_expr foldable
const_leaf c = record { made = refl; none = refl; words = omega arith }

read_leaf : (p : Place) → Leaf (read p)
unfolding optimize_expr foldable
read_leaf p = record { made = refl; none = refl; words = omega arith }

by_kind : (k d h : ℕ) (pay : List ℕ) (es : Exprs) → within 1 5 k ≡ true → Leaf (expr_by k d h pay es)
by_kind k d h pay es e =
    elim (ℕ_discrete k 1) [
      | yes u ↦ simp (eq-eqb k 1 u) (const_leaf (const_of d pay))
      | no u ↦
          let low : 2 ≤ k = omega (arith, within_low 1 5 k e) in
          simp (ne_eqb k 1 u, le-leb 2 k low, le-leb k 5 (within_high 1 5 k e))
          (read_leaf (place_of k (get_or pay 0 0)))
    ]

leaf_tree : (r : Rose) → within 1 5 (kind_of r) ≡ true → Leaf (expr_of r)
unfolding expr_of
leaf_tree (node s own ps) e =
    let h = get_or own 0 0 in
    by_kind (kind_in h) (detail_in h) h (drop 1 own) (exprs_of ps) e

-- ---- of words

-- what stands there, by its header
module _ {w : List ℕ} {at top : ℕ} {b : Bool} (a : Ask w at top) (e : b ≡ within 1 5 (kind_in (get_or w at 0))) where
  pub leaf_ask : b ≡ true → LeafAsk w at top
  leaf_ask l = record { ask = a; leaf = sym e ∙ l }

  pub inner_ask : b ≡ false → NodeAsk w at top
  inner_ask l = record { ask = a; no_leaf = sym e ∙ l }

-- where no kind of expressions is, there is no leaf
pub no_leaf : {word h n : ℕ} → h ≡ word → n ≡ kind_in h → ((kind : ExprKind) → expr_number kind ≡ n → ⊥)
    → false ≡ within 1 5 (kind_in word)
no_leaf {word} {h} {n} eh en f =
    subst (λ (k : ℕ). false ≡ within 1 5 k) (en ∙ ap kind_in eh)
    (by_test (false ≡ within 1 5 n) (within 1 5 n)
    (λ t. absurd (expr_kind n (ap₂ ◌&&◌ (le-leb 1 n (within_low 1 5 n t))
    (le-leb n 16 (omega (arith, within_high 1 5 n t)))) f))
    sym)

-- a constant of class 6 has two payload words, any other leaf one
one_word : (h : ℕ) → within 1 5 (kind_in h) ≡ true → (h ≡ 1537 → ⊥) → pay_count (kind_in h) (detail_in h) 0 ≡ 1
one_word h l u = elim (ℕ_discrete (kind_in h) 1) [
  | yes e ↦ simp (eq-eqb (kind_in h) 1 e) (one_pay h e u)
  | no n ↦
      let low : 2 ≤ kind_in h = omega (arith, within_low 1 5 (kind_in h) l, n) in
      simp (ne_eqb (kind_in h) 1 n, le-leb 2 (kind_in h) low, le-leb (kind_in h) 5 (within_high 1 5 (kind_in h) l))
]

two_words : (h : ℕ) → h ≡ 1537 → pay_count (kind_in h) (detail_in h) 0 ≡ 2
two_words h e = ap (λ (i : ℕ). pay_count (kind_in i) (detail_in i) 0) e

-- its numbers, with its header read
module _ {w : List ℕ} {at top h : ℕ} (a : LeafAsk w at top) (e : h ≡ get_or w at 0) where
  leaf_is : within 1 5 (kind_in h) ≡ true
  leaf_is = ap (λ (i : ℕ). within 1 5 (kind_in i)) e ∙ a.leaf

  -- with so many payload words
  leaf_numbers : (n : ℕ) → pay_count (kind_in h) (detail_in h) 0 ≡ n
      → NodeOf w at (kind_in h) (detail_in h) (get_or w (at + 1) 0) (at + 1 + n) 0
  leaf_numbers n f =
      leaf_of (some_of (ask_node a.ask) e refl refl) leaf_is refl (ap (λ (i : ℕ). at + 1 + i) (sym f))

  pub leaf_short : {long : Bool} → long ≡ eqb h 1537 → long ≡ false
      → NodeOf w at (kind_in h) (detail_in h) (get_or w (at + 1) 0) (at + 2) 0
  leaf_short t u =
      subst (λ (i : ℕ). NodeOf w at (kind_in h) (detail_in h) (get_or w (at + 1) 0) i 0) (omega arith)
      (leaf_numbers 1 (one_word h leaf_is (eqb-false h 1537 (sym t ∙ u))))

  pub leaf_long : {long : Bool} → long ≡ eqb h 1537 → long ≡ true
      → NodeOf w at (kind_in h) (detail_in h) (get_or w (at + 1) 0) (at + 3) 0
  leaf_long t u =
      subst (λ (i : ℕ). NodeOf w at (kind_in h) (detail_in h) (get_or w (at + 1) 0) i 0) (omega arith)
      (leaf_numbers 2 (two_words h (eqb-true h 1537 (sym t ∙ u))))

module _ {w : List ℕ} {at top k d x next n : ℕ} (o : NodeOf w at k d x next n) (a : LeafAsk w at top) where
  pub leaf_put : PutAsk (length w) at next top
  leaf_put = own_put o a.ask

  leaf_kind : (s : Sort) (r : Rose) → Below w at top s r → within 1 5 (kind_of r) ≡ true
  leaf_kind s r b =
      subst (λ (j : ℕ). within 1 5 j ≡ true) (head_kind w at s r b.valid b.here) a.leaf

  leaf_high : (s : Sort) (r : Rose) → Below w at top s r → kind_of r ≤ 5
  leaf_high s r b = within_high 1 5 (kind_of r) (leaf_kind s r b)

  -- what was put is the tree, and what is made of it
  pub leaf_done : {v : List ℕ} {r : Optimized} → PutDone w v at next top r.end → (r.next ≡ next) × (r.foldable ≡ 0)
      → Done w v at top r
  leaf_done {v} {r} p e = record {
    frame = p.frame;
    right = λ s q b.
        by_sort (λ s q. Below w at top s q → Passed v at top r s q) one
        (λ q u b. absurd (omega (arith, target_kind q u, leaf_high sort.Target q b)))
        (λ q u b. absurd (omega (arith, target_kind q u, leaf_high sort.Single q b))) s q b.part b.valid b;
  }
    where
      one : (q : Rose) → Valid sort.Expr q → Below w at top sort.Expr q → Passed v at top r sort.Expr q
      one q u b =
          let leaf = leaf_tree q (leaf_kind sort.Expr q b) in
          let same : q ≡ passed sort.Expr q = sym (ap rose_e leaf.made ∙ rose_expr q u) in
          let words : size q ≡ length (own_of q) =
          subst (λ (x : Rose). size x ≡ length (own_of x)) (rose_expr q u) leaf.words in
          let from : next ≡ at + size q =
          (o.of sort.Expr q refl u b.here).is_first ∙ ap (λ (m : ℕ). at + m) (sym words) in
          record {
            from = e.0 ∙ from;
            here = subst (At v top) same (put_at q from p b.here);
            ends = subst (λ (x : Rose). r.end ≡ top + size x) same (omega (arith, p.ends, from));
            met = e.1 ∙ sym leaf.none;
          }

-- a leaf of either length is put
module _ {w : List ℕ} {at top h : ℕ} (a : LeafAsk w at top) (e : h ≡ get_or w at 0) {long : Bool}
    (t : long ≡ eqb h 1537) where
  module _ (u : long ≡ true) where
    pub long_put : PutAsk (length w) at (at + 3) top
    long_put = leaf_put (leaf_long a e t u) a

    pub long_done : {v : List ℕ} {end : ℕ} → PutDone w v at (at + 3) top end
        → Done w v at top (record { next = at + 3; end = end; foldable = 0 })
    long_done p = leaf_done (leaf_long a e t u) a p (refl, refl)

  module _ (u : long ≡ false) where
    pub short_put : PutAsk (length w) at (at + 2) top
    short_put = leaf_put (leaf_short a e t u) a

    pub short_done : {v : List ℕ} {end : ℕ} → PutDone w v at (at + 2) top end
        → Done w v at top (record { next = at + 2; end = end; foldable = 0 })
    short_done p = leaf_done (leaf_short a e t u) a p (refl, refl)
