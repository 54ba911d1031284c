-- Foldable places by their nodes, and what the functions over words tell of them.
use Rattle.std.specs.Prelude.{Bool, true, false, not, cond, ◌&&◌, ◌||◌, List, ◌≡◌, ℕ, ◌+◌, eqb}
use Rattle.spec.specs.Rose.{Rose, Roses, size, At, Ats}
use Rattle.spec.specs.Rose.{count as countR}
use Rattle.spec.specs.Grammar.{header, kind_in, detail_in, Valid}
use Rattle.spec.specs.Meaning.{expr_of, exprs_of}
use Rattle.spec.specs.Tree
use Rattle.spec.specs.Tree.{Expr, const, read, fresh, dict, if_then, type_is, logic, seq, oper, call}
use Rattle.spec.specs.Verdict.{is_string}
use Rattle.spec.specs.Foldable.{const_part, list_part, dot_part, type_call_part, other_part}
use Rattle.spec.specs.Foldable.{part_of, binary_folds, oper_folds, all_constant, fresh_folds, call_folds}
use Rattle.spec.specs.Foldable as Foldable
use Rattle.spec.specs.declared.Sort.TheVariants as sort
use Rattle.ir.specs.Standing.{ValidExprs}
use Rattle.foldable.specs.declared.Part.{Part}
use Rattle.foldable.specs.declared.Part.TheVariants as part

-- whether the node itself is a foldable place, its parts being as they stand
unfoldable pub folds_here : Expr → Bool
folds_here (const c) = false
folds_here (read p) = false
folds_here (fresh f es) = fresh_folds f es
folds_here (dict es) = false
folds_here (if_then c t f) = false
folds_here (Tree.not e) = false
folds_here (type_is t e) = false
folds_here (logic l x y) = false
folds_here (seq x y) = false
folds_here (oper h pay es) = oper_folds h es
folds_here (call names args kwargs f es) = call_folds names args kwargs f es

-- the enum's case for a part
abbrev pub part_for : Foldable.Part → Part
part_for (const_part c) = cond (is_string c) part.Text part.Const
part_for list_part = part.List
part_for dot_part = part.Dot
part_for type_call_part = part.TypeCall
part_for other_part = part.Other

-- which part stands at a place
pub record PartDone (w : List ℕ) (at : ℕ) (r : Part) : Type 0 where
  pub right : (t : Rose) → Valid sort.Expr t → At w at t → r ≡ part_for (part_of (expr_of t))

-- ---- by the numbers of a node's own words

-- a type call: `lead` is the first word of the callee, d and w are the call's detail and first payload word
abbrev pub type_call_by : ℕ → ℕ → ℕ → Bool
type_call_by lead d w = eqb lead (header 1 4) && (eqb d 1 && eqb w 0)

-- a part
abbrev pub part_by : ℕ → ℕ → ℕ → ℕ → Part
part_by k d w lead =
    cond (eqb k 1) (cond (eqb d 3) part.Text part.Const)
    (cond (eqb k 7) part.List
    (cond (eqb k 11 && eqb d 7) part.Dot
    (cond (eqb k 16 && type_call_by lead d w) part.TypeCall part.Other)))

-- a call
abbrev pub call_by : ℕ → ℕ → ℕ → Bool
call_by lead d w =
    ((eqb (kind_in lead) 11 && eqb (detail_in lead) 7) || eqb (kind_in lead) 1) && not (type_call_by lead d w)

-- ---- Builtin2 by its detail and its parts

abbrev pub is_text : Part → Bool
is_text part.Text = true
is_text part.Const = false
is_text part.List = false
is_text part.Dot = false
is_text part.TypeCall = false
is_text part.Other = false

abbrev pub is_type_call_for : Part → Bool
is_type_call_for part.Text = false
is_type_call_for part.Const = false
is_type_call_for part.List = false
is_type_call_for part.Dot = false
is_type_call_for part.TypeCall = true
is_type_call_for part.Other = false

-- a part that a string constant on the other side may fold with: a constant, a list for Add, a type call for Equals
abbrev pub joins : ℕ → Part → Bool
joins d part.Text = true
joins d part.Const = true
joins d part.List = eqb d 3
joins d part.Dot = false
joins d part.TypeCall = eqb d 0
joins d part.Other = false

-- left, then right
abbrev pub binary_by : ℕ → Part → Part → Bool
binary_by d part.Text y = eqb d 5 || joins d y
binary_by d part.Const y = joins d y && not (is_type_call_for y)
binary_by d part.List y = eqb d 3 && joins d y
binary_by d part.Dot y = false
binary_by d part.TypeCall y = eqb d 0 && is_text y
binary_by d part.Other y = false

-- ---- constants by their header

-- "one word: 0 None .. 5 len function .. 6 other: any number, then a word": one payload word; 1537 is class 6
abbrev pub is_short : ℕ → Bool
is_short h = eqb (kind_in h) 1 && not (eqb h 1537)

-- ---- of whatever expressions stand at a place

-- two, the parts of a Builtin2
pub record BinaryOf (w : List ℕ) (at d : ℕ) (b : Bool) : Type 0 where
  pub of : (x y : Rose) → Valid sort.Expr x → Valid sort.Expr y → At w at x → At w (at + size x) y
      → b ≡ binary_folds d (part_of (expr_of x)) (part_of (expr_of y))

-- n of them, all constants
pub record AllOf (w : List ℕ) (at n : ℕ) (b : Bool) : Type 0 where
  pub of : (ps : Roses) → ValidExprs ps → Ats w at ps → n ≡ countR ps → b ≡ all_constant (exprs_of ps)
