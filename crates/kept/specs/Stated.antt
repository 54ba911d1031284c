-- Statements that the pass keeps: a Return of a kept expression, a kept expression that stays a statement, and the
-- assignment of one to a slot.
use Rattle.std.specs.Prelude.{Bool, true, ◌||◌, List, [], ◌∷◌, ◌≡◌, ℕ, ◌+◌, ◌≤◌, ◌<◌, eqb, leb, length, get_or}
use Rattle.std.specs.Prelude.{Option, Some, None, ⊤}
use Rattle.spec.specs.Rose.{size, depth, At, Words}
use Rattle.spec.specs.Grammar.{kind_in, within, Valid}
use Rattle.spec.specs.Tree.{Slot, local_slot, captured_slot, module_slot, slot_words, slot}
use Rattle.spec.specs.Tree.{Expr, Stmt, return, expr, assign, rose_s}
use Rattle.spec.specs.Proper.{ProperStmt}
use Rattle.spec.specs.PassStmts.{one, is_terminal, optimize_stmt}
use Rattle.spec.specs.Foldable.{foldable_stmt}
use Rattle.spec.specs.declared.Sort.TheVariants as sort
use Rattle.kept.specs.declared.Kept.{Kept}

-- kinds of kept expressions that stay statements: all but constants, tuples, lists and dicts
abbrev pub alone_by : ℕ → Bool
alone_by k = within 2 5 k || leb 10 k

-- such a statement but for its expression; an assignment has a type word and a slot
pub data Form : Type 0 where
  returned stated : Form
  assigned : ℕ → Slot → Form

abbrev pub stmt_in : Form → Expr → Stmt
stmt_in returned e = return e
stmt_in stated e = expr e
stmt_in (assigned t s) e = assign t (slot s) e

-- the words in front of the expression
abbrev pub form_words : Form → List ℕ
form_words returned = 33 ∷ []
form_words stated = 34 ∷ []
form_words (assigned t s) = 35 ∷ t ∷ slot_words s

-- a module's slot has a text; an expression that is a statement has a kind k of those above
abbrev pub SlotRight : Slot → Type 0
SlotRight (local_slot n) = Unit {0}
SlotRight (captured_slot n) = Unit {0}
SlotRight (module_slot n t) = t < 65536

abbrev pub FormRight : Form → ℕ → Type 0
FormRight returned k = Unit {0}
FormRight stated k = alone_by k ≡ true
FormRight (assigned t s) k = SlotRight s

-- its expression begins at `value`; None says nothing
pub record ValueStays (w : List ℕ) (at value : ℕ) : Type 0 where
  pub form : Form
  pub here : Words w at (form_words form)
  pub ends : value ≡ at + length (form_words form)
  pub right : FormRight form (kind_in (get_or w value 0))

abbrev pub ValueAt : List ℕ → ℕ → Option ℕ → Type 0
ValueAt w at (Some value) = ValueStays w at value
ValueAt w at None = ⊤

-- a statement from `at` on is kept, up to this end and with so many foldable places, and is no deeper than a rule may
-- be; a Return alone is an exit
pub record StmtStays (w : List ℕ) (at : ℕ) (k : Kept) : Type 0 where
  pub tree : Stmt
  pub valid : ProperStmt tree × Valid sort.Stmt (rose_s tree)
  pub here : At w at (rose_s tree)
  pub ends : k.next ≡ at + size (rose_s tree)
  pub inside : k.next ≤ length w
  pub deep : depth (rose_s tree) ≤ 200
  pub stays : optimize_stmt tree ≡ one tree
  pub met : k.foldable ≡ foldable_stmt tree
  pub exits : is_terminal (one tree) ≡ eqb (get_or w at 0) 33

-- None says nothing
abbrev pub StmtKept : List ℕ → ℕ → Option Kept → Type 0
StmtKept w at (Some k) = StmtStays w at k
StmtKept w at None = ⊤
