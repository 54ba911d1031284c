-- The verdicts on one expression by the numbers of its own words: its kind, its detail, its first and second payload
-- words, the first word of its first part, and what is known of its parts.
use Rattle.std.specs.Prelude.{Bool, true, false, not, cond, ◌&&◌, ◌||◌, ℕ, eqb, leb, get_or}
use Rattle.spec.specs.Rose.{Rose, Roses, nil, cons, own_of}
use Rattle.spec.specs.Grammar.{header, kind_in, detail_in, within}
use Rattle.spec.specs.Tree
use Rattle.spec.specs.Tree.{and, or, Expr, const, read, fresh, dict, if_then, type_is, logic, seq, oper, call}
use Rattle.spec.specs.Tree.{Exprs, no_exprs, more_exprs, count_e}
use Rattle.spec.specs.Meaning.{flag, part_e}
use Rattle.spec.specs.Verdict.{pures, truth_of, known, known_if, opposite, joined}
use Rattle.spec.specs.declared.Truth.{Truth}
use Rattle.spec.specs.declared.Truth.TheVariants as truth

-- ---- numbers

-- own word i of a tree, 0 where it has none: 0 is the header, then comes the payload
abbrev pub word_in : Rose → ℕ → ℕ
word_in r i = get_or (own_of r) i 0

-- its kind and its detail
abbrev pub kind_of : Rose → ℕ
kind_of r = kind_in (word_in r 0)

abbrev pub detail_of : Rose → ℕ
detail_of r = detail_in (word_in r 0)

-- the first word of the first part, 0 if there is none
abbrev pub lead_of : Roses → ℕ
lead_of nil = 0
lead_of (cons p ps) = word_in p 0

-- the parts in word order, a call's callee first
abbrev pub parts_e : Expr → Exprs
parts_e (const c) = no_exprs
parts_e (read p) = no_exprs
parts_e (fresh f es) = es
parts_e (dict es) = es
parts_e (if_then c t f) = more_exprs c (more_exprs t (more_exprs f no_exprs))
parts_e (Tree.not e) = more_exprs e no_exprs
parts_e (type_is t e) = more_exprs e no_exprs
parts_e (logic l x y) = more_exprs x (more_exprs y no_exprs)
parts_e (seq x y) = more_exprs x (more_exprs y no_exprs)
parts_e (oper h pay es) = es
parts_e (call names args kwargs f es) = more_exprs f es

-- ---- verdicts

-- what a pure expression's own words may be; its parts are all pure
abbrev pub own_pure : ℕ → ℕ → ℕ → ℕ → Bool
own_pure k d w lead =
    cond (eqb k 1) true
    (cond (within 6 7 k) true
    (cond (eqb k 8) (eqb d 0)
    (cond (eqb k 9) true
    (cond (eqb k 11) (within 3 4 d)
    (cond (within 12 13 k) true
    (cond (eqb k 16) (eqb lead (header 1 4) && (eqb d 1 && eqb w 0)) false))))))

-- a constant's truth by its class and its two words
abbrev pub const_truth_by : ℕ → ℕ → ℕ → Bool
const_truth_by d w w₂ =
    cond (eqb d 0) false (cond (within 1 3 d) (not (eqb w 0)) (cond (within 4 5 d) true (flag 65536 w₂)))

-- the truth, where `allPure` tells whether every part is pure, `parts` how many there are, and `first` and `second` are
-- the first and second part's truths
abbrev pub truth_by : ℕ → ℕ → ℕ → ℕ → Bool → ℕ → Truth → Truth → Truth
truth_by k d w w₂ allPure parts first second =
    cond (eqb k 1) (known (const_truth_by d w w₂))
    (cond (within 6 7 k) (known_if allPure (not (eqb parts 0)))
    (cond (eqb k 8) (known_if (eqb parts 0) false)
    (cond (eqb k 11) (cond (eqb d 3) (opposite first) truth.Unknown)
    (cond (eqb k 12) (joined (cond (eqb d 0) and or) first second) truth.Unknown))))

-- the same with what is known of the parts `es`
abbrev pub truth_with : ℕ → ℕ → ℕ → ℕ → Exprs → Truth
truth_with k d w w₂ es = truth_by k d w w₂ (pures es) (count_e es) (truth_of (part_e 0 es)) (truth_of (part_e 1 es))

-- In, Equals and Compare are the operators among these
abbrev pub bool_by : ℕ → ℕ → Bool
bool_by k d = (eqb k 1 && eqb d 1) || ((eqb k 11 && within 3 4 d) || (eqb k 14 && (leb d 1 || within 13 16 d)))

-- others by the mark in their second word; lists, tuples and dicts of none
abbrev pub empty_by : ℕ → ℕ → ℕ → Bool
empty_by k d w₂ = cond (eqb k 1) (eqb d 6 && flag 131072 w₂) (within 6 8 k && eqb d 0)
