-- Nodes that the pass keeps, by their own words and the first word of their first part, and what is told of a node.
use Rattle.std.specs.Prelude.{Bool, true, false, not, cond, ◌&&◌, ◌||◌, List, ◌≡◌, ℕ, ◌+◌, ◌≤◌, ◌<◌, ◌^◌, eqb, length}
use Rattle.std.specs.Prelude.{get_or, Option, Some, None, ⊤}
use Rattle.spec.specs.Rose.{Roses, Ats, Words}
use Rattle.spec.specs.Rose.{count as countR}
use Rattle.spec.specs.Grammar.{header, kind_in, detail_in, within, Owned}
use Rattle.spec.specs.Views.{lead_of}
use Rattle.spec.specs.declared.Sort.TheVariants as sort
use Rattle.ir.specs.Standing.{ValidExprs}
use Rattle.foldable.specs.Places.{type_call_by, call_by}
use Rattle.kept_nodes.specs.declared.Own.{Own}

-- ---- one node

-- Percent with a string constant to the left
abbrev pub percent_text : ℕ → ℕ → Bool
percent_text d lead = eqb d 5 && eqb lead (header 1 3)

-- Builtin2: to the left neither a constant, but in Percent a string, nor in Add a list
abbrev pub binary_kept : ℕ → ℕ → Bool
binary_kept d lead =
    not ((eqb (kind_in lead) 1 && not (percent_text d lead)) || (eqb (kind_in lead) 7 && eqb d 3))

-- a node of kind k, detail d and first payload word w, whose first part begins with the word `lead`: constants and
-- reads; calls but type calls; Builtin1 but Not and TypeIs; Builtin2; a tuple that is empty or begins with no constant;
-- lists, dicts, Slice and Index2
abbrev pub kept_by : ℕ → ℕ → ℕ → ℕ → Bool
kept_by k d w lead =
    cond (within 1 5 k) true
    (cond (eqb k 16) (not (type_call_by lead d w))
    (cond (eqb k 11) (not (within 3 4 d))
    (cond (eqb k 14) (binary_kept d lead)
    (cond (eqb k 6) (eqb d 0 || not (eqb (kind_in lead) 1)) (within 7 8 k || (eqb k 10 || eqb k 15))))))

-- whether it is a foldable place
abbrev pub folds_by : ℕ → ℕ → ℕ → ℕ → Bool
folds_by k d w lead =
    cond (eqb k 16) (call_by lead d w)
    (cond (eqb k 14) (percent_text d lead)
    (cond (eqb k 6) (eqb d 0)
    (cond (eqb k 11 || (eqb k 10 || eqb k 15)) (eqb (kind_in lead) 1) false)))

-- the same of own words
abbrev pub own_kept : List ℕ → ℕ → Bool
own_kept own lead = kept_by (kind_in (get_or own 0 0)) (detail_in (get_or own 0 0)) (get_or own 1 0) lead

abbrev pub own_folds : List ℕ → ℕ → Bool
own_folds own lead = folds_by (kind_in (get_or own 0 0)) (detail_in (get_or own 0 0)) (get_or own 1 0) lead

-- ---- own words

-- what is told of a node, whatever its n parts from `first` on are
pub record Stays (own : List ℕ) (ps : Roses) (folds : Bool) : Type 0 where
  pub kept : own_kept own (lead_of ps) ≡ true
  pub met : own_folds own (lead_of ps) ≡ folds

pub record OwnStays (w : List ℕ) (at : ℕ) (o : Own) : Type 0 where
  pub own : List ℕ
  pub here : Words w at own
  pub ends : o.first ≡ at + length own
  pub inside : o.first ≤ length w
  pub owned : Owned sort.Expr own o.count
  pub few : o.count < 67108864
  pub stays : (ps : Roses) → ValidExprs ps → Ats w o.first ps → o.count ≡ countR ps → Stays own ps o.folds

-- None says nothing
abbrev pub OwnKept : List ℕ → ℕ → Option Own → Type 0
OwnKept w at (Some o) = OwnStays w at o
OwnKept w at None = ⊤

-- ---- what the functions for one kind are asked

-- a header of this kind and detail stands there, and this word behind it
pub record HeadAsk (w : List ℕ) (at k d word : ℕ) : Type 0 where
  pub inside : at + 1 < length w
  pub is_kind : k ≡ kind_in (get_or w at 0)
  pub is_detail : d ≡ detail_in (get_or w at 0)
  pub is_word : word ≡ get_or w (at + 1) 0
  pub small : d < 2 ^ 24

-- so many words from a place on are texts
pub record AllTexts (w : List ℕ) (at n : ℕ) : Type 0 where
  pub text : (i : ℕ) → i < n → get_or w (at + i) 0 < 65536
