-- What it is for trees to stand in words, as the functions over words ask it and tell of it. What they are told they
-- may rely on is of some tree, what they tell is of whatever valid tree stands there.
use Rattle.std.specs.Prelude.{false, cond, List, ◌≡◌, ℕ, ◌+◌, ◌≤◌, eqb, length, get_or}
use Rattle.spec.specs.Rose.{Rose, Roses, size, sizes, At, Ats, own_of, parts_of}
use Rattle.spec.specs.Rose.{count as countR}
use Rattle.spec.specs.Grammar.{kind_in, detail_in, is_list, Valid, Valids}
use Rattle.spec.specs.Views.{word_in, kind_of, detail_of}
use Rattle.spec.specs.declared.Sort.{Sort}
use Rattle.spec.specs.declared.Sort.TheVariants as sort
use Rattle.tables.specs.Payload.{pay_count}
use Rattle.tables.specs.Kinds.{expr_number, stmt_number, target_number}
use Rattle.ir.specs.declared.tree.Node.{Node}
use Rattle.tables.specs.declared.exprs.ExprKind.{ExprKind}
use Rattle.tables.specs.declared.stmts.StmtKind.{StmtKind}
use Rattle.tables.specs.declared.targets.TargetKind.{TargetKind}
use Rattle.ir.specs.declared.node.Extent.{Extent}

-- the word behind a header, 0 if the node has no payload
abbrev pub first_pay : List ℕ → ℕ → ℕ → ℕ → ℕ
first_pay ws at k d = cond (eqb (pay_count k d 0) 0) 0 (get_or ws (at + 1) 0)

-- a node of some sort stands there
pub record SomeNode (ws : List ℕ) (at : ℕ) : Type 0 where
  pub sort : Sort
  pub node : is_list sort ≡ false
  pub tree : Rose
  pub valid : Valid sort tree
  pub here : At ws at tree
  pub inside : at + size tree ≤ length ws

-- and its header has this kind and detail
pub record SomeNodeOf (ws : List ℕ) (at k d : ℕ) : Type 0 where
  pub some : SomeNode ws at
  pub is_kind : k ≡ kind_in (get_or ws at 0)
  pub is_detail : d ≡ detail_in (get_or ws at 0)

-- the numbers of a node
pub record Shape (r : Rose) (at k d w first n : ℕ) : Type 0 where
  pub is_kind : k ≡ kind_of r
  pub is_detail : d ≡ detail_of r
  pub is_word : w ≡ word_in r 1
  pub is_first : first ≡ at + length (own_of r)
  pub is_count : n ≡ countR (parts_of r)

pub record NodeOf (ws : List ℕ) (at k d w first n : ℕ) : Type 0 where
  pub of : (s : Sort) (r : Rose) → is_list s ≡ false → Valid s r → At ws at r → Shape r at k d w first n

-- the same of a node, its kind by name
abbrev pub IsKind : {K : Type 0} → (K → ℕ) → List ℕ → ℕ → Node K → Type 0
IsKind number ws at x = NodeOf ws at (number x.kind) x.detail x.word x.first x.count

abbrev pub IsExpr : List ℕ → ℕ → Node ExprKind → Type 0
IsExpr = IsKind expr_number

abbrev pub IsStmt : List ℕ → ℕ → Node StmtKind → Type 0
IsStmt = IsKind stmt_number

abbrev pub IsTarget : List ℕ → ℕ → Node TargetKind → Type 0
IsTarget = IsKind target_number

-- how many words are a node's own, and how many parts it has
pub record ExtentOf (ws : List ℕ) (at own n : ℕ) : Type 0 where
  pub kind : ℕ
  pub detail : ℕ
  pub word : ℕ
  pub node : NodeOf ws at kind detail word (at + own) n

abbrev pub IsExtent : List ℕ → ℕ → Extent → Type 0
IsExtent ws at x = ExtentOf ws at x.own x.count

-- expressions, one behind the other
abbrev pub ValidExprs : Roses → Type 0
ValidExprs ps = Valids (λ (i : ℕ). sort.Expr) 0 ps

pub record SomeExprs (ws : List ℕ) (at n : ℕ) : Type 0 where
  pub trees : Roses
  pub valid : ValidExprs trees
  pub here : Ats ws at trees
  pub many : n ≡ countR trees
  pub inside : at + sizes trees ≤ length ws

-- where they end
pub record SkipOf (ws : List ℕ) (at n next : ℕ) : Type 0 where
  pub of : (ps : Roses) → ValidExprs ps → Ats ws at ps → n ≡ countR ps → next ≡ at + sizes ps

-- one expression
pub record SomeExpr (ws : List ℕ) (at : ℕ) : Type 0 where
  pub tree : Rose
  pub valid : Valid sort.Expr tree
  pub here : At ws at tree
  pub inside : at + size tree ≤ length ws

-- one statement, and one target
pub record SomeOf (sort : Sort) (ws : List ℕ) (at : ℕ) : Type 0 where
  pub tree : Rose
  pub valid : Valid sort tree
  pub here : At ws at tree
  pub inside : at + size tree ≤ length ws

abbrev pub SomeStmt : List ℕ → ℕ → Type 0
SomeStmt = SomeOf sort.Stmt

abbrev pub SomeTarget : List ℕ → ℕ → Type 0
SomeTarget = SomeOf sort.Target
