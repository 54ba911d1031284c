-- Own words that are read, and those of a node that stop the reading.
-- Assumes nothing.
use mathlib.Core.Bool.{true, false}
use mathlib.Core.List.{List}
use mathlib.Core.Path.{◌≡◌, refl, ap, ap₂, sym, ◌∙◌}
use Prim.Native.Nat.{ℕ, ◌+◌, ◌<◌}
use borrow.Author.Tests.{lt-ltb, ne_eqb}
use denote.Enum.Bare.{sameb}
use lib.ListN.{length, get_or}
use Rattle.spec.specs.Grammar.{kind_in, detail_in, head_right, part_count, part_sort, is_list}
use Rattle.spec.specs.Outcome.{given, refused}
use Rattle.spec.specs.contracts.Sort as contract
use Rattle.spec.specs.declared.Sort.{Sort}
use Rattle.spec.specs.declared.Sort.TheVariants as sort
use Rattle.std.specs.Prelude.{Some}
use Rattle.steps.specs.Steps.{pay_step, head_step, own_step}
use Rattle.tables.specs.Kinds.{node_number}
use Rattle.tables.specs.declared.kind.NodeKind.{NodeKind}
use Rattle.reader.specs.Owns.{IsOwn}

-- what the test says
pub is_same : (s : Sort) → sameb contract.the_type s sort.List ≡ is_list s
is_same sort.Expr = refl
is_same sort.Target = refl
is_same sort.Single = refl
is_same sort.Stmt = refl
is_same sort.List = refl

-- a node whose header is right
module _ (levels : ℕ) (ws : List ℕ) (s : Sort) (at : ℕ) (kind : NodeKind) {d : ℕ} (inside : at < length ws)
    (level : levels ≡ 0 → ⊥) (node : is_list s ≡ false) (number : node_number kind ≡ kind_in (get_or ws at 0))
    (detail : d ≡ detail_in (get_or ws at 0)) (right : head_right s (node_number kind) d ≡ true) where
  own_node : own_step levels ws s at ≡ pay_step ws (at + 1) (node_number kind) d
  unfolding own_step
  own_node =
      simp (lt-ltb at (length ws) inside, node, ne_eqb levels 0 level)
      (ap₂ (head_step ws s at) (sym number) (sym detail) ∙ simp right)

  pub node_stops : {n place : ℕ} → pay_step ws (at + 1) (node_number kind) d ≡ refused n place
      → own_step levels ws s at ≡ refused n place
  node_stops e = own_node ∙ e

  pub node_owns : {first count : ℕ} → pay_step ws (at + 1) (node_number kind) d ≡ given first
      → count ≡ part_count (node_number kind) d (get_or ws (at + 1) 0)
      → IsOwn levels ws s at (record { kind = Some kind; first = first; count = count })
  node_owns e many = record {
    read = own_node ∙ e;
    many = simp node (many ∙ ap₂ (λ (k x : ℕ). part_count k x (get_or ws (at + 1) 0)) number detail);
    sorts = λ i. simp node (ap (λ (k : ℕ). part_sort k i) number);
  }
