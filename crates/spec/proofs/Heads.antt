-- Which kinds and details are accepted, one constructor for each that means a different thing, and which payloads.
-- Assumes nothing.
use mathlib.Core.Bool.{Bool, true, false, not, cond, ◌&&◌, ◌||◌, false≢true}
use mathlib.Core.List.{List, [], ◌∷◌}
use mathlib.Core.Path.{◌≡◌, refl, ap, sym, subst, ◌∙◌}
use Prim.Native.Nat.{ℕ, suc, ◌≤◌, ◌<◌}
use native.Mathlib.Omega.{arith}
use native.Mathlib.Decide.{ℕ_discrete}
use borrow.Author.Tests.{eqb-true, leb-true}
use lib.Dec.{eqb, leb}
use lib.ListN.{length, get_or}
use Rattle.std.proofs.lemmas.Grind.{common_steps}
use Rattle.spec.specs.Rose.{Rose, Roses, nil, cons, count}
use Rattle.spec.specs.Grammar.{header, kind_in, detail_in, within, expr_head, single_head, target_head, stmt_head, Rule}
use Rattle.spec.specs.Grammar.{word_right, Ruled, Headed, rules, part_count}
use Rattle.spec.specs.declared.Sort.{Sort}
use Rattle.spec.specs.Proper.{is_operator}
use Rattle.spec.proofs.Outcomes.{both}

-- ---- headers

-- kind and detail give the header back
pub header_again : (h : ℕ) → h ≡ header (kind_in h) (detail_in h)
header_again h = omega arith

pub kind_of_header : (k d : ℕ) → k < 256 → kind_in (header k d) ≡ k
kind_of_header k d l = omega arith

pub detail_of_header : (k d : ℕ) → k < 256 → detail_in (header k d) ≡ d
detail_of_header k d l = omega arith

-- ---- the accepted kinds and details

-- classes of constants
pub data Class : ℕ → Type 0 where
  none : Class 0
  boolean : Class 1
  int : Class 2
  string : Class 3
  type_function : Class 4
  len_function : Class 5
  other : Class 6

-- kinds of what is read
pub data Placed : ℕ → Type 0 where
  local : Placed 2
  captured : Placed 3
  module' : Placed 4
  def : Placed 5

-- operators of no meaning of their own here
pub data Operator : ℕ → ℕ → Type 0 where
  slice : {d : ℕ} → Operator 10 d
  builtin1 : {d : ℕ} → (d ≡ 3 → ⊥) → (d ≡ 4 → ⊥) → Operator 11 d
  builtin2 : {d : ℕ} → Operator 14 d
  index2 : {d : ℕ} → Operator 15 d

-- expressions
pub data ExprHead : ℕ → ℕ → Type 0 where
  constant : {d : ℕ} → Class d → ExprHead 1 d
  place : {k : ℕ} → Placed k → ExprHead k 0
  tuple : {d : ℕ} → ExprHead 6 d
  list : {d : ℕ} → ExprHead 7 d
  dict : {d : ℕ} → ExprHead 8 d
  if_then : ExprHead 9 0
  negation : ExprHead 11 3
  type_is : ExprHead 11 4
  and : ExprHead 12 0
  or : ExprHead 12 1
  seq : ExprHead 13 0
  operator : {k d : ℕ} → Operator k d → ExprHead k d
  call : {d : ℕ} → ExprHead 16 d

-- targets, a tuple apart
pub data SingleHead : ℕ → ℕ → Type 0 where
  dot : SingleHead 64 0
  index : SingleHead 65 0
  local_slot : SingleHead 67 0
  captured_slot : SingleHead 68 0
  module_slot : SingleHead 69 0

pub data TargetHead : ℕ → ℕ → Type 0 where
  tuple_target : {d : ℕ} → TargetHead 66 d
  single : {k d : ℕ} → SingleHead k d → TargetHead k d

-- statements
pub data StmtHead : ℕ → ℕ → Type 0 where
  possible_gc : StmtHead 32 0
  return : StmtHead 33 0
  expr : StmtHead 34 0
  assign : StmtHead 35 0
  assign_modify : {d : ℕ} → StmtHead 36 d
  if_stmt : StmtHead 37 0
  for : StmtHead 38 0
  break : StmtHead 39 0
  continue : StmtHead 40 0

-- ---- their inversion

-- what a test that chose a truth tells
branch : {P : Type 0} (test a b : Bool) → cond test a b ≡ true
    → (test ≡ true → a ≡ true → P) → (test ≡ false → b ≡ true → P) → P
branch true a b e f g = f refl e
branch false a b e f g = g refl e

either : {P : Type 0} (a b : Bool) → a || b ≡ true → (a ≡ true → P) → (b ≡ true → P) → P
either true b e f g = f refl
either false b e f g = g e

-- a test of a range
pub within_low : (low high n : ℕ) → within low high n ≡ true → low ≤ n
within_low low high n e = leb-true low n (both (leb low n) (leb n high) e).0

pub within_high : (low high n : ℕ) → within low high n ≡ true → n ≤ high
within_high low high n e = leb-true n high (both (leb low n) (leb n high) e).1

-- of numbers from `low` on, the first and the others
first : (P : ℕ → Type 0) (low n : ℕ) → low ≤ n → P low → (suc low ≤ n → P n) → P n
first P low n l p f = elim (ℕ_discrete low n) [ yes e ↦ subst P e p | no u ↦ f (omega arith) ]

-- a class up to 6, a kind from 2 to 5
class_view : (d : ℕ) → d ≤ 6 → Class d
class_view d high =
    first Class 0 d (omega arith) none λ l.
    first Class 1 d l boolean λ l.
    first Class 2 d l int λ l.
    first Class 3 d l string λ l.
    first Class 4 d l type_function λ l.
    first Class 5 d l len_function λ l.
    first Class 6 d l other λ l. absurd (omega arith)

place_view : (k : ℕ) → 2 ≤ k → k ≤ 5 → Placed k
place_view k low high =
    first Placed 2 k low local λ l.
    first Placed 3 k l captured λ l.
    first Placed 4 k l module' λ l.
    first Placed 5 k l def λ l. absurd (omega arith)

-- a kind that a test found, with a detail
at_kind : (P : ℕ → ℕ → Type 0) (k j : ℕ) {d : ℕ} → eqb k j ≡ true → P j d → P k d
at_kind P k j {d} e p = subst (λ n. P n d) (sym (eqb-true k j e)) p

at_both : (P : ℕ → ℕ → Type 0) (k d j c : ℕ) → eqb k j ≡ true → eqb d c ≡ true → P j c → P k d
at_both P k d j c e f p = at_kind P k j e (subst (P j) (sym (eqb-true d c f)) p)

at_none : (P : ℕ → ℕ → Type 0) {k : ℕ} (d : ℕ) → eqb d 0 ≡ true → P k 0 → P k d
at_none P {k} d e p = subst (P k) (sym (eqb-true d 0 e)) p

-- Builtin1: Not, TypeIs or an operator; And and Or
builtin_view : (d : ℕ) → ExprHead 11 d
builtin_view d = elim (ℕ_discrete d 3) [
  | yes e ↦ subst (ExprHead 11) (sym e) negation
  | no u ↦ elim (ℕ_discrete d 4) [
    | yes e ↦ subst (ExprHead 11) (sym e) type_is
    | no v ↦ operator (builtin1 u v)
  ]
]

logic_view : (d : ℕ) → d ≤ 1 → ExprHead 12 d
logic_view d high =
    first (ExprHead 12) 0 d (omega arith) and λ l.
    first (ExprHead 12) 1 d l or λ l. absurd (omega arith)

-- Tuple, List and Dict; Slice and Builtin1
parts_view : (k d : ℕ) → 6 ≤ k → k ≤ 8 → ExprHead k d
parts_view k d low high =
    first (λ k. ExprHead k d) 6 k low tuple λ l.
    first (λ k. ExprHead k d) 7 k l list λ l.
    first (λ k. ExprHead k d) 8 k l dict λ l. absurd (omega arith)

slice_view : (k d : ℕ) → 10 ≤ k → k ≤ 11 → ExprHead k d
slice_view k d low high =
    first (λ k. ExprHead k d) 10 k low (operator slice) λ l.
    first (λ k. ExprHead k d) 11 k l (builtin_view d) λ l. absurd (omega arith)

-- an accepted header of each sort
pub expr_head_lem : (k d : ℕ) → expr_head k d ≡ true → ExprHead k d
expr_head_lem k d h =
    branch (eqb k 1) _ _ h (λ e f. at_kind ExprHead k 1 e (constant (class_view d (leb-true d 6 f)))) λ n h.
    branch (within 2 5 k) _ _ h
    (λ e f. at_none ExprHead d f (place (place_view k (within_low 2 5 k e) (within_high 2 5 k e)))) λ n h.
    branch (within 6 8 k) _ _ h (λ e f. parts_view k d (within_low 6 8 k e) (within_high 6 8 k e)) λ n h.
    branch (eqb k 9) _ _ h (λ e f. at_both ExprHead k d 9 0 e f if_then) λ n h.
    branch (within 10 11 k) _ _ h (λ e f. slice_view k d (within_low 10 11 k e) (within_high 10 11 k e)) λ n h.
    branch (eqb k 12) _ _ h (λ e f. at_kind ExprHead k 12 e (logic_view d (leb-true d 1 f))) λ n h.
    branch (eqb k 13) _ _ h (λ e f. at_both ExprHead k d 13 0 e f seq) λ n h.
    branch (eqb k 14) _ _ h (λ e f. at_kind ExprHead k 14 e (operator builtin2)) λ n h.
    branch (eqb k 15) _ _ h (λ e f. at_kind ExprHead k 15 e (operator index2)) λ n h.
    at_kind ExprHead k 16 h call

pub single_head_lem : (k d : ℕ) → single_head k d ≡ true → SingleHead k d
single_head_lem k d h =
    at_none SingleHead d (both (within 64 65 k || within 67 69 k) (eqb d 0) h).1
    (either (within 64 65 k) (within 67 69 k) (both (within 64 65 k || within 67 69 k) (eqb d 0) h).0
    (λ e.
    first (λ k. SingleHead k 0) 64 k (within_low 64 65 k e) dot λ l.
    first (λ k. SingleHead k 0) 65 k l index λ l. absurd (omega (arith, within_high 64 65 k e)))
    (λ e.
    first (λ k. SingleHead k 0) 67 k (within_low 67 69 k e) local_slot λ l.
    first (λ k. SingleHead k 0) 68 k l captured_slot λ l.
    first (λ k. SingleHead k 0) 69 k l module_slot λ l. absurd (omega (arith, within_high 67 69 k e))))

pub target_head_lem : (k d : ℕ) → target_head k d ≡ true → TargetHead k d
target_head_lem k d h =
    either (eqb k 66) (single_head k d) h (λ e. at_kind TargetHead k 66 e tuple_target)
    (λ e. single (single_head_lem k d e))

pub stmt_head_lem : (k d : ℕ) → stmt_head k d ≡ true → StmtHead k d
stmt_head_lem k d h =
    branch (eqb k 36) (leb d 10) (within 32 40 k && eqb d 0) h (λ e f. at_kind StmtHead k 36 e assign_modify) λ n h.
    let e = (both (within 32 40 k) (eqb d 0) h).0 in
    at_none StmtHead d (both (within 32 40 k) (eqb d 0) h).1
    (first (λ k. StmtHead k 0) 32 k (within_low 32 40 k e) possible_gc λ l.
    first (λ k. StmtHead k 0) 33 k l return λ l.
    first (λ k. StmtHead k 0) 34 k l expr λ l.
    first (λ k. StmtHead k 0) 35 k l assign λ l.
    first (λ k. StmtHead k 0) 36 k l assign_modify λ l.
    first (λ k. StmtHead k 0) 37 k l if_stmt λ l.
    first (λ k. StmtHead k 0) 38 k l for λ l.
    first (λ k. StmtHead k 0) 39 k l break λ l.
    first (λ k. StmtHead k 0) 40 k l continue λ l. absurd (omega (arith, within_high 32 40 k e)))

-- neither Not nor TypeIs
pub outside : (d : ℕ) → (d ≡ 3 → ⊥) → (d ≡ 4 → ⊥) → within 3 4 d ≡ false
outside d u v = grind (arith, common_steps)

-- what is an operator, and what is said to be one
pub is_operator_lem : {k d : ℕ} → Operator k d → is_operator k d ≡ true
is_operator_lem slice = refl
is_operator_lem (builtin1 {d} u v) = ap not (outside d u v)
is_operator_lem builtin2 = refl
is_operator_lem index2 = refl

pub operator_view : (k d : ℕ) → is_operator k d ≡ true → Operator k d
operator_view k d h =
    branch (eqb k 11) (not (within 3 4 d)) (eqb k 10 || within 14 15 k) h
    (λ e f. at_kind Operator k 11 e (builtin1 (λ q. clash 3 refl f q) (λ q. clash 4 refl f q))) λ n h.
    either (eqb k 10) (within 14 15 k) h (λ e. at_kind Operator k 10 e slice) λ e.
    first (λ k. Operator k d) 14 k (within_low 14 15 k e) builtin2 λ l.
    first (λ k. Operator k d) 15 k l index2 λ l. absurd (omega (arith, within_high 14 15 k e))
  where
    clash : (c : ℕ) → within 3 4 c ≡ true → not (within 3 4 d) ≡ true → d ≡ c → ⊥
    clash c e f q = false≢true (ap not (sym e) ∙ ap (λ n. not (within 3 4 n)) (sym q) ∙ f)

-- ---- payloads

-- words that are as their rules say, one by one
pub data Payload (d : ℕ) : List Rule → List ℕ → Type 0 where
  no_word : Payload d [] []
  word : {r : Rule} {rs : List Rule} {w : ℕ} {ws : List ℕ}
      → word_right r d w ≡ true → Payload d rs ws → Payload d (r ∷ rs) (w ∷ ws)

-- rules kept, taken apart; so there are as many words as rules
pub payload_view : {d : ℕ} (rs : List Rule) (ws : List ℕ) → Ruled d rs ws → Payload d rs ws
payload_view [] [] v = no_word
payload_view [] (w ∷ ws) v = absurd v
payload_view (r ∷ rs) [] v = absurd v
payload_view (r ∷ rs) (w ∷ ws) v = word v.0 (payload_view rs ws v.1)

pub payload_length : {d : ℕ} {rs : List Rule} {ws : List ℕ} → Payload d rs ws → length ws ≡ length rs
payload_length no_word = refl
payload_length (word e p) = ap suc (payload_length p)

-- ---- parts

-- so many trees, one by one
pub data Many : ℕ → Roses → Type 0 where
  no_part : Many 0 nil
  part : {n : ℕ} {p : Rose} {ps : Roses} → Many n ps → Many (suc n) (cons p ps)

-- trees counted, taken apart
pub many_view : (ps : Roses) → Many (count ps) ps
many_view nil = no_part
many_view (cons p ps) = part (many_view ps)

pub many_count : {n : ℕ} {ps : Roses} → Many n ps → count ps ≡ n
many_count no_part = refl
many_count (part m) = ap suc (many_count m)

-- the payload and the parts of an accepted header
pub headed_pay : {s : Sort} {h : ℕ} {pay : List ℕ} {n : ℕ} → Headed s h pay n
    → Payload (detail_in h) (rules (kind_in h) (detail_in h) (get_or pay 0 0)) pay
headed_pay {h = h} {pay = pay} o = payload_view (rules (kind_in h) (detail_in h) (get_or pay 0 0)) pay o.ruled

pub headed_parts : {s : Sort} {h : ℕ} {pay : List ℕ} {ps : Roses} → Headed s h pay (count ps)
    → Many (part_count (kind_in h) (detail_in h) (get_or pay 0 0)) ps
headed_parts {ps = ps} o = subst (λ n. Many n ps) o.many (many_view ps)
