-- Document 01's numbers of the kinds and details, and what it is for a number to be read as one.
use Rattle.std.specs.Prelude.{Result, MatchResult, ◌≡◌, ℕ, ◌<◌}
use Rattle.tables.specs.declared.exprs.ExprKind.{ExprKind}
use Rattle.tables.specs.declared.exprs.ExprKind.TheVariants as expr
use Rattle.tables.specs.declared.stmts.StmtKind.{StmtKind}
use Rattle.tables.specs.declared.stmts.StmtKind.TheVariants as stmt
use Rattle.tables.specs.declared.targets.TargetKind.{TargetKind}
use Rattle.tables.specs.declared.targets.TargetKind.TheVariants as target
use Rattle.tables.specs.declared.details.Class.{Class}
use Rattle.tables.specs.declared.details.Class.TheVariants as class
use Rattle.tables.specs.declared.details.Builtin1.{Builtin1}
use Rattle.tables.specs.declared.details.Builtin1.TheVariants as builtin1
use Rattle.tables.specs.declared.details.LogicalBinOp.{LogicalBinOp}
use Rattle.tables.specs.declared.details.LogicalBinOp.TheVariants as logic
use Rattle.tables.specs.declared.details.Builtin2.{Builtin2}
use Rattle.tables.specs.declared.details.Builtin2.TheVariants as builtin2
use Rattle.tables.specs.declared.kind.NodeKind.{NodeKind}
use Rattle.tables.specs.declared.kind.NodeKind.TheVariants as node
use Rattle.tables.specs.declared.kind.NoKind.{NoKind}

-- "1 constant", "2 Local, 3 LocalCaptured, 4 Module, 5 Def", "6 Tuple, 7 List (detail parts), 8 Dict (detail pairs), 9
-- If, 10 Slice", "11 Builtin1", "12 And 0, Or 1; 13 Seq; 14 Builtin2", "15 Index2", "16 Call"
abbrev pub expr_number : ExprKind → ℕ
expr_number expr.Const = 1
expr_number expr.Local = 2
expr_number expr.LocalCaptured = 3
expr_number expr.Module = 4
expr_number expr.Def = 5
expr_number expr.Tuple = 6
expr_number expr.List = 7
expr_number expr.Dict = 8
expr_number expr.If = 9
expr_number expr.Slice = 10
expr_number expr.Builtin1 = 11
expr_number expr.LogicalBinOp = 12
expr_number expr.Seq = 13
expr_number expr.Builtin2 = 14
expr_number expr.Index2 = 15
expr_number expr.Call = 16

-- "32 PossibleGc, 33 Return, 34 Expr, 35 Assign", "36 AssignModify", "37 If", "38 For", "39 Break, 40 Continue"
abbrev pub stmt_number : StmtKind → ℕ
stmt_number stmt.PossibleGc = 32
stmt_number stmt.Return = 33
stmt_number stmt.Expr = 34
stmt_number stmt.Assign = 35
stmt_number stmt.AssignModify = 36
stmt_number stmt.If = 37
stmt_number stmt.For = 38
stmt_number stmt.Break = 39
stmt_number stmt.Continue = 40

-- "Targets: 64 Dot (text, object), 65 Index, 66 Tuple (detail), 67 Local, 68 captured, 69 Module (slot, text)"
abbrev pub target_number : TargetKind → ℕ
target_number target.Dot = 64
target_number target.Index = 65
target_number target.Tuple = 66
target_number target.Local = 67
target_number target.LocalCaptured = 68
target_number target.Module = 69

-- "A header has its kind in bits 0 to 7": one number for each kind of expression, statement and target
abbrev pub node_number : NodeKind → ℕ
node_number (node.Expr kind) = expr_number kind
node_number (node.Stmt kind) = stmt_number kind
node_number (node.Target kind) = target_number kind

-- "1 constant, detail class": "0 None (0), 1 bool (0/1), 2 int (signed), 3 string (text), 4 type function (0), 5 len
-- function (0), 6 other"
abbrev pub class_number : Class → ℕ
class_number class.None = 0
class_number class.Bool = 1
class_number class.Int = 2
class_number class.String = 3
class_number class.TypeFn = 4
class_number class.LenFn = 5
class_number class.Other = 6

-- "11 Builtin1, detail 0 to 7 in the Rust's order": Minus, Plus, BitNot, Not, TypeIs, "the two format kinds", Dot
abbrev pub builtin1_number : Builtin1 → ℕ
builtin1_number builtin1.Minus = 0
builtin1_number builtin1.Plus = 1
builtin1_number builtin1.BitNot = 2
builtin1_number builtin1.Not = 3
builtin1_number builtin1.TypeIs = 4
builtin1_number builtin1.PercentSOne = 5
builtin1_number builtin1.FormatOne = 6
builtin1_number builtin1.Dot = 7

-- "12 And 0, Or 1"
abbrev pub logic_number : LogicalBinOp → ℕ
logic_number logic.And = 0
logic_number logic.Or = 1

-- "14 Builtin2, detail 0 to 17 in the Rust's order, Compare as 13 to 16"
abbrev pub builtin2_number : Builtin2 → ℕ
builtin2_number builtin2.Equals = 0
builtin2_number builtin2.In = 1
builtin2_number builtin2.Sub = 2
builtin2_number builtin2.Add = 3
builtin2_number builtin2.Multiply = 4
builtin2_number builtin2.Percent = 5
builtin2_number builtin2.Divide = 6
builtin2_number builtin2.FloorDivide = 7
builtin2_number builtin2.BitAnd = 8
builtin2_number builtin2.BitOr = 9
builtin2_number builtin2.BitXor = 10
builtin2_number builtin2.LeftShift = 11
builtin2_number builtin2.RightShift = 12
builtin2_number builtin2.Less = 13
builtin2_number builtin2.Greater = 14
builtin2_number builtin2.LessOrEqual = 15
builtin2_number builtin2.GreaterOrEqual = 16
builtin2_number builtin2.ArrayIndex = 17

-- the kind with a number, or an error that holds the number where no kind has it
abbrev pub Kinded : {K : Type 0} → (K → ℕ) → ℕ → Result K NoKind → Type 0
Kinded {K} number n r = MatchResult r (λ kind. number kind ≡ n) (λ e. (e.0 ≡ n) × ((kind : K) → number kind ≡ n → ⊥))

abbrev pub IsExprKind : ℕ → Result ExprKind NoKind → Type 0
IsExprKind = Kinded expr_number

abbrev pub IsStmtKind : ℕ → Result StmtKind NoKind → Type 0
IsStmtKind = Kinded stmt_number

abbrev pub IsTargetKind : ℕ → Result TargetKind NoKind → Type 0
IsTargetKind = Kinded target_number

abbrev pub IsNodeKind : ℕ → Result NodeKind NoKind → Type 0
IsNodeKind = Kinded node_number

-- the same of details, which have the numbers from 0 up to `most`
abbrev pub Detailed : {K : Type 0} → (K → ℕ) → ℕ → ℕ → Result K NoKind → Type 0
Detailed number most n r = MatchResult r (λ detail. number detail ≡ n) (λ e. (e.0 ≡ n) × (most < n))

abbrev pub IsClass : ℕ → Result Class NoKind → Type 0
IsClass = Detailed class_number 6

abbrev pub IsBuiltin1 : ℕ → Result Builtin1 NoKind → Type 0
IsBuiltin1 = Detailed builtin1_number 7

abbrev pub IsLogicalBinOp : ℕ → Result LogicalBinOp NoKind → Type 0
IsLogicalBinOp = Detailed logic_number 1

abbrev pub IsBuiltin2 : ℕ → Result Builtin2 NoKind → Type 0
IsBuiltin2 = Detailed builtin2_number 17
