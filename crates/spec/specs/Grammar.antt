-- Which words a tree may have: document 01, 'Words', as tables over a header's kind and detail, and refusal 9.
use Rattle.std.specs.Prelude.{Bool, true, false, cond, ◌&&◌, ◌||◌, List, [], ◌∷◌, ◌≡◌, ℕ, suc, ◌+◌, ◌*◌, ◌/◌, ◌%◌, eqb}
use Rattle.std.specs.Prelude.{leb, ltb, get_or, replicate}
use Rattle.spec.specs.Rose.{Rose, Roses, node, nil, cons, count}
use Rattle.spec.specs.declared.Sort.{Sort}
use Rattle.spec.specs.declared.Sort.TheVariants as sort

-- "A header has its kind in bits 0 to 7 and a detail in bits 8 to 31"
abbrev pub header : ℕ → ℕ → ℕ
header kind detail = kind + 256 * detail

abbrev pub kind_in : ℕ → ℕ
kind_in h = h % 256

abbrev pub detail_in : ℕ → ℕ
detail_in h = h / 256

-- bit n of a word, as 0 or 1, for a power of two 2^n
abbrev pub bit : ℕ → ℕ → ℕ
bit power w = w / power % 2

-- from `low` to `high`
abbrev pub within : ℕ → ℕ → ℕ → Bool
within low high n = leb low n && leb n high

-- ---- kinds and details

-- "1 constant, detail class": 0 to 6; "2 Local, 3 LocalCaptured, 4 Module, 5 Def"; "6 Tuple, 7 List (detail parts), 8
-- Dict (detail pairs), 9 If, 10 Slice (detail bits 0, 1, 2: start, stop, step)"; "11 Builtin1, detail 0 to 7"; "12 And
-- 0, Or 1; 13 Seq; 14 Builtin2, detail 0 to 17; 15 Index2"; "16 Call, detail arguments"; a detail is "0 unless named"
abbrev pub expr_head : ℕ → ℕ → Bool
expr_head k d =
    cond (eqb k 1) (leb d 6)
    (cond (within 2 5 k) (eqb d 0)
    (cond (within 6 8 k) true
    (cond (eqb k 9) (eqb d 0)
    (cond (within 10 11 k) (leb d 7)
    (cond (eqb k 12) (leb d 1)
    (cond (eqb k 13) (eqb d 0)
    (cond (eqb k 14) (leb d 17)
    (cond (eqb k 15) (eqb d 0) (eqb k 16)))))))))

-- "Targets: 64 Dot (text, object), 65 Index, 66 Tuple (detail), 67 Local, 68 captured, 69 Module (slot, text)"
abbrev pub single_head : ℕ → ℕ → Bool
single_head k d = (within 64 65 k || within 67 69 k) && eqb d 0

abbrev pub target_head : ℕ → ℕ → Bool
target_head k d = eqb k 66 || single_head k d

-- "32 PossibleGc, 33 Return, 34 Expr, 35 Assign, 36 AssignModify (detail 0 to 10), 37 If, 38 For,
-- 39 Break, 40 Continue"
abbrev pub stmt_head : ℕ → ℕ → Bool
stmt_head k d = cond (eqb k 36) (leb d 10) (within 32 40 k && eqb d 0)

-- a kind that belongs at a place, with a detail of its own; a list has no header
abbrev pub head_right : Sort → ℕ → ℕ → Bool
head_right sort.Expr k d = expr_head k d
head_right sort.Target k d = target_head k d
head_right sort.Single k d = single_head k d
head_right sort.Stmt k d = stmt_head k d
head_right sort.List k d = false

-- ---- payload words

-- what a payload word may be
pub data Rule : Type 0 where
  -- 0 alone; 0 or 1; any word; "Text: a word 0 to 65,535"
  zero bool any text : Rule
  -- of an other constant: "type text in bits 0 to 15, truth 16, empty 17"
  facts : Rule
  -- of a call: "names in bits 0 to 15 (not above arguments), args 16, kwargs 17"
  names : Rule

-- a word by its rule, in a node with a detail
abbrev pub word_right : Rule → ℕ → ℕ → Bool
word_right zero d w = eqb w 0
word_right bool d w = ltb w 2
word_right any d w = true
word_right text d w = ltb w 65536
word_right facts d w = ltb w 262144
word_right names d w = ltb w 262144 && leb (w % 65536) d

-- "one word: 0 None (0), 1 bool (0/1), 2 int (signed), 3 string (text), 4 type function (0), 5 len function (0), 6
-- other: any number, then a word"
abbrev pub const_rules : ℕ → List Rule
const_rules d =
    cond (eqb d 1) (bool ∷ [])
    (cond (eqb d 2) (any ∷ [])
    (cond (eqb d 3) (text ∷ [])
    (cond (eqb d 6) (any ∷ facts ∷ []) (zero ∷ []))))

-- "11 Builtin1 ..; TypeIs and Dot a text, the two format kinds two texts": details 4 and 7, 5 and 6
abbrev pub builtin_rules : ℕ → List Rule
builtin_rules d = cond (within 5 6 d) (text ∷ text ∷ []) (cond (eqb d 4 || eqb d 7) (text ∷ []) [])

-- the payload of a node; w is its first word, which tells how many names a call has
abbrev pub rules : ℕ → ℕ → ℕ → List Rule
rules k d w =
    cond (eqb k 1) (const_rules d)
    (cond (within 2 5 k) (any ∷ [])
    (cond (eqb k 11) (builtin_rules d)
    (cond (eqb k 16) (names ∷ replicate (w % 65536) text)
    (cond (eqb k 35) (any ∷ [])
    (cond (eqb k 64) (text ∷ [])
    (cond (within 67 68 k) (any ∷ [])
    (cond (eqb k 69) (any ∷ text ∷ []) [])))))))

-- ---- parts

-- how many parts a node has: "callee, arguments, args, kwargs" of a call
abbrev pub part_count : ℕ → ℕ → ℕ → ℕ
part_count k d w =
    cond (within 6 7 k || eqb k 66) d
    (cond (eqb k 8) (2 * d)
    (cond (eqb k 10) (1 + bit 1 d + bit 2 d + bit 4 d)
    (cond (eqb k 16) (1 + d + bit 65536 w + bit 131072 w)
    (cond (eqb k 11 || within 33 34 k || eqb k 64) 1
    (cond (within 12 14 k || within 35 36 k || eqb k 65) 2
    (cond (eqb k 9 || eqb k 15 || within 37 38 k) 3 0))))))

-- what part i is: "35 Assign (a type word, any number; target; value), 36 AssignModify (..; target but 66; value), 37
-- If (condition, two lists), 38 For (target, over, list)"; a tuple target's parts are targets; all others
-- are expressions
abbrev pub part_sort : ℕ → ℕ → Sort
part_sort k i =
    cond (eqb k 66) sort.Target
    (cond (within 35 38 k)
    (cond (eqb i 0)
    (cond (eqb k 36) sort.Single (cond (eqb k 37) sort.Expr sort.Target))
    (cond (eqb k 37 || eqb i 2) sort.List sort.Expr))
    sort.Expr)

-- ---- trees

-- payload words that are as their rules say
abbrev pub Ruled : ℕ → List Rule → List ℕ → Type 0
Ruled d [] [] = Unit {0}
Ruled d [] (w ∷ ws) = ⊥
Ruled d (r ∷ rs) [] = ⊥
Ruled d (r ∷ rs) (w ∷ ws) = (word_right r d w ≡ true) × Ruled d rs ws

-- a header and a payload, with n parts
pub record Headed (s : Sort) (h : ℕ) (pay : List ℕ) (n : ℕ) : Type 0 where
  pub head : head_right s (kind_in h) (detail_in h) ≡ true
  pub ruled : Ruled (detail_in h) (rules (kind_in h) (detail_in h) (get_or pay 0 0)) pay
  pub many : n ≡ part_count (kind_in h) (detail_in h) (get_or pay 0 0)

-- "A rule is a list: a count of statements, then these"
pub record Counted (h : ℕ) (pay : List ℕ) (n : ℕ) : Type 0 where
  pub alone : pay ≡ []
  pub many : n ≡ h

abbrev pub is_list : Sort → Bool
is_list sort.Expr = false
is_list sort.Target = false
is_list sort.Single = false
is_list sort.Stmt = false
is_list sort.List = true

abbrev pub OwnedBy : Bool → Sort → ℕ → List ℕ → ℕ → Type 0
OwnedBy true s h pay n = Counted h pay n
OwnedBy false s h pay n = Headed s h pay n

-- own words with n parts, at a place of a sort
abbrev pub Owned : Sort → List ℕ → ℕ → Type 0
Owned s [] n = ⊥
Owned s (h ∷ pay) n = OwnedBy (is_list s) s h pay n

-- the sort of part i
abbrev pub sorts_by : Bool → ℕ → ℕ → Sort
sorts_by true h i = sort.Stmt
sorts_by false h i = part_sort (kind_in h) i

abbrev pub sorts_in : Sort → List ℕ → ℕ → Sort
sorts_in s own i = sorts_by (is_list s) (get_or own 0 0) i

-- the sort of the tree that stands at a place of a sort
abbrev pub made : Sort → Sort
made sort.Expr = sort.Expr
made sort.Target = sort.Target
made sort.Single = sort.Target
made sort.Stmt = sort.Stmt
made sort.List = sort.List

-- a tree at a place of a sort that has the words it may have, all through
abbrev mutual
  pub Valid : Sort → Rose → Type 0
  Valid s (node t own ps) = (t ≡ made s) × Owned s own (count ps) × Valids (sorts_in s own) 0 ps

  pub Valids : (ℕ → Sort) → ℕ → Roses → Type 0
  Valids f i nil = Unit {0}
  Valids f i (cons p ps) = Valid (f i) p × Valids f (suc i) ps
