-- What `node_at` computes by the tables are the numbers of whatever valid node stands there.
-- Assumes nothing.
use mathlib.Core.Bool.{Bool, true, false}
use mathlib.Core.List.{List, [], ◌∷◌}
use mathlib.Core.Path.{◌≡◌, refl, ap, ap₂, sym, subst, ◌∙◌}
use Prim.Native.Nat.{ℕ, ◌+◌, ◌≤◌, ◌<◌}
use native.Mathlib.Decide.{ℕ_discrete}
use native.Mathlib.Omega.{arith}
use borrow.Author.Tests.{eq-eqb, ne_eqb}
use lib.ListN.{length, get_or}
use Rattle.spec.specs.Rose.{Rose, node, size, Words, At, own_of}
use Rattle.spec.specs.Rose.{count as countR}
use Rattle.spec.specs.Grammar.{kind_in, detail_in, within, rules, part_count, Headed, OwnedBy, is_list}
use Rattle.spec.specs.Grammar.{Valid}
use Rattle.spec.proofs.Readings.{rules_other}
use Rattle.spec.proofs.Heads.{payload_view, payload_length}
use Rattle.spec.specs.declared.Sort.{Sort}
use Rattle.spec.specs.declared.Sort.TheVariants as sort
use Rattle.tables.specs.Payload.{pay_count}
use Rattle.ir.specs.Standing.{first_pay, SomeNode, SomeNodeOf, Shape, NodeOf, SomeExpr}
use Rattle.tables.proofs.Payloads.{pay_count_lem}
use Rattle.ir.proofs.Rows.{leaf_pay, leaf_same, leaf_parts}

-- a node that is no list has a header
pub headed : {s : Sort} {h : ℕ} {pay : List ℕ} {n : ℕ} → is_list s ≡ false → OwnedBy (is_list s) s h pay n
    → Headed s h pay n
headed {s} {h} {pay} {n} e o = subst (λ (b : Bool). OwnedBy b s h pay n) e o

-- a payload is as long as its rules
pay_length : {s : Sort} {h : ℕ} {pay : List ℕ} {n : ℕ} → Headed s h pay n
    → length pay ≡ pay_count (kind_in h) (detail_in h) (get_or pay 0 0)
pay_length {s} {h} {pay} o =
    payload_length (payload_view (rules (kind_in h) (detail_in h) (get_or pay 0 0)) pay o.ruled)
    ∙ pay_count_lem (detail_in h) (get_or pay 0 0) (kind_in h)

-- whether there is a payload does not hang on its first word
pay_some : (k d w : ℕ) → 0 < pay_count k d w → pay_count k d 0 ≡ 0 → ⊥
pay_some k d w some none =
    elim (ℕ_discrete k 16) [ yes e ↦ call (subst (λ (n : ℕ). pay_count n d 0 ≡ 0) e none) | no n ↦ other n ]
  where
    call : pay_count 16 d 0 ≡ 0 → ⊥
    call z = omega arith

    other : (k ≡ 16 → ⊥) → ⊥
    other n =
        let same = sym (pay_count_lem d w k) ∙ ap length (rules_other k d w 0 n) ∙ pay_count_lem d 0 k in
        omega (arith, same)

-- the first payload word of a node without payload, and of one that has some
pub bare_word : (ws : List ℕ) (at k d : ℕ) → pay_count k d 0 ≡ 0 → first_pay ws at k d ≡ 0
bare_word ws at k d none = simp (eq-eqb (pay_count k d 0) 0 none)

pub paid_word : (ws : List ℕ) (at k d : ℕ) → (pay_count k d 0 ≡ 0 → ⊥) → first_pay ws at k d ≡ get_or ws (at + 1) 0
paid_word ws at k d some = simp (ne_eqb (pay_count k d 0) 0 some)

-- the first payload word
first_word : (ws : List ℕ) (at k d : ℕ) (pay : List ℕ) → length pay ≡ pay_count k d (get_or pay 0 0)
    → Words ws (at + 1) pay
    → first_pay ws at k d ≡ get_or pay 0 0
first_word ws at k d [] l t = bare_word ws at k d (sym l)
first_word ws at k d (x ∷ pay) l t =
    let some : 0 < pay_count k d x = omega arith in
    paid_word ws at k d (pay_some k d x some) ∙ t.0

module _ {ws : List ℕ} {at k d w first n : ℕ} (x : SomeNodeOf ws at k d) (ew : w ≡ first_pay ws at k d)
    (ef : first ≡ at + 1 + pay_count k d w) (en : n ≡ part_count k d w) where
  shape : (s : Sort) (r : Rose) → is_list s ≡ false → Valid s r → At ws at r → Shape r at k d w first n
  shape s (node t [] ps) e v a = absurd v.1
  shape s (node t (h ∷ pay) ps) e v a =
      let o : Headed s h pay (countR ps) = headed e v.1 in
      let kind : k ≡ kind_in h = x.is_kind ∙ ap kind_in a.0.0 in
      let detail : d ≡ detail_in h = x.is_detail ∙ ap detail_in a.0.0 in
      let long = pay_length o in
      let word : w ≡ get_or pay 0 0 =
      ew ∙ ap₂ (first_pay ws at) kind detail
      ∙ first_word ws at (kind_in h) (detail_in h) pay long a.0.1 in
      let numbers : pay_count k d w ≡ length pay =
      ap₂ (λ (x y : ℕ). pay_count x y w) kind detail ∙ ap (pay_count (kind_in h) (detail_in h)) word ∙ sym long in
      record {
        is_kind = kind;
        is_detail = detail;
        is_word = word;
        is_first = omega arith;
        is_count = en ∙ ap₂ (λ (x y : ℕ). part_count x y w) kind detail
            ∙ ap (part_count (kind_in h) (detail_in h)) word ∙ sym o.many;
      }

  pub node_of : NodeOf ws at k d w first n
  node_of = record { of = shape }

-- the numbers of one valid node that stands there are those of any
pub node_same : {ws : List ℕ} {at k d w first n : ℕ} (x : SomeNode ws at) → Shape x.tree at k d w first n
    → NodeOf ws at k d w first n
node_same x h =
    let known = node_of (record { some = x; is_kind = refl; is_detail = refl }) refl refl refl in
    record {
      of = λ s r e v a.
          let own = known.of x.sort x.tree x.node x.valid x.here in
          let other = known.of s r e v a in
          record { is_kind = cc; is_detail = cc; is_word = cc; is_first = cc; is_count = cc };
    }

-- a node has a word, so it begins inside
pub node_inside : {ws : List ℕ} {at : ℕ} → SomeNode ws at → at < length ws
node_inside {ws} {at} x = go x.sort x.tree x.valid x.inside
  where
    go : (s : Sort) (r : Rose) → Valid s r → at + size r ≤ length ws → at < length ws
    go s (node t [] ps) v i = absurd v.1
    go s (node t (h ∷ pay) ps) v i = omega arith

own_size : (r : Rose) → length (own_of r) ≤ size r
own_size (node t own ps) = omega arith

-- and its own words end inside
pub node_room : {ws : List ℕ} {at k d : ℕ} → SomeNodeOf ws at k d → (w : ℕ) → w ≡ first_pay ws at k d
    → at + 1 + pay_count k d w ≤ length ws
node_room {ws} {at} {k} {d} x w ew =
    let s = x.some in
    let own = shape x ew refl refl s.sort s.tree s.node s.valid s.here in
    omega (arith, own.is_first, own_size s.tree, s.inside)

-- a node with its header read
pub some_of : {ws : List ℕ} {at h k d : ℕ} → SomeNode ws at → h ≡ get_or ws at 0 → k ≡ kind_in h → d ≡ detail_in h
    → SomeNodeOf ws at k d
some_of x eh ek ed = record { some = x; is_kind = ek ∙ ap kind_in eh; is_detail = ed ∙ ap detail_in eh }

-- a node without payload: its first part stands behind its header
pub bare_of : {ws : List ℕ} {at k d n : ℕ} → SomeNodeOf ws at k d → pay_count k d 0 ≡ 0 → n ≡ part_count k d 0
    → NodeOf ws at k d 0 (at + 1) n
bare_of {ws} {at} {k} {d} x none en = node_of x (sym (bare_word ws at k d none)) (omega arith) en

-- a leaf: it has a payload, whose length hangs on its header alone, and no parts
module _ {ws : List ℕ} {at k d : ℕ} (x : SomeNodeOf ws at k d) (h : within 1 5 k ≡ true) where
  word : {w : ℕ} → w ≡ get_or ws (at + 1) 0 → w ≡ first_pay ws at k d
  word e = e ∙ sym (paid_word ws at k d (leaf_pay k d h))

  pub leaf_of : {w first : ℕ} → w ≡ get_or ws (at + 1) 0 → first ≡ at + 1 + pay_count k d 0
      → NodeOf ws at k d w first 0
  leaf_of {w} {first} ew ef =
      node_of x (word ew) (ef ∙ ap (λ (n : ℕ). at + 1 + n) (sym (leaf_same k d w h))) (sym (leaf_parts k d w h))

-- ---- an expression

-- it is a node, with a header of its own
pub some_node : {ws : List ℕ} {at : ℕ} → SomeExpr ws at → SomeNode ws at
some_node x = record {
  sort = sort.Expr;
  node = refl;
  tree = x.tree;
  valid = x.valid;
  here = x.here;
  inside = x.inside;
}
