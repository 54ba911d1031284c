-- What the constructors that tell types are handed, and what they make of it.
use Rattle.std.specs.Prelude.{Bool, false, cond, ◌&&◌, Option, Some, None, List, [], ◌≡◌, ℕ, ◌+◌, ◌%◌, eqb}
use Rattle.spec.specs.Grammar.{within}
use Rattle.spec.specs.Tree.{type_function, Expr, const, type_is, call, Exprs, no_exprs, more_exprs}
use Rattle.spec.specs.Pass.{type_is_expr, typ, call_expr}
use Rattle.expr_forms.specs.Made.{Plain}

-- TypeIs, and what `type_is` makes of its part
abbrev pub type_iss : ℕ × Expr → Expr
type_iss e = type_is e.0 e.1

abbrev pub type_is_made : ℕ × Expr → Expr
type_is_made e = type_is_expr e.0 e.1

-- a call, and what `call` makes of it
abbrev pub calls : List ℕ × Bool × Bool × Expr × Exprs → Expr
calls c = call c.0 c.1 c.2 c.3 c.4

abbrev pub call_made : List ℕ × Bool × Bool × Expr × Exprs → Expr
call_made c = call_expr c.0 c.1 c.2 c.3 c.4

-- the text of a constant's type by its class and its second payload word
abbrev pub const_type_by : ℕ → ℕ → ℕ
const_type_by class second =
    cond (eqb class 0) 1
    (cond (eqb class 1) 2 (cond (eqb class 2) 3 (cond (eqb class 3) 4 (cond (within 4 5 class) 5 (second % 65536)))))

-- the text of the type that an expression's kind, detail and second payload word tell where it is pure
abbrev pub type_text_by : ℕ → ℕ → ℕ → Option ℕ
type_text_by kind detail second =
    cond (eqb kind 1) (Some (const_type_by detail second))
    (cond (eqb kind 6) (Some 6)
    (cond (eqb kind 7) (Some 7)
    (cond (eqb kind 8) (Some 8)
    (cond (eqb kind 11 && within 3 4 detail) (Some 2) None))))

-- a type call by its argument, and what `typ` makes of it
abbrev pub type_parts : Expr → List ℕ × Bool × Bool × Expr × Exprs
type_parts e = ([], false, false, const type_function, more_exprs e no_exprs)

abbrev pub type_calls : Expr → Expr
type_calls e = calls (type_parts e)

abbrev pub type_made : Expr → Expr
type_made e = typ e (type_calls e)

-- a type call, whose argument stands at `part`
pub record TypeCall (w : List ℕ) (at part end : ℕ) : Type 0 where
  pub plain : Plain type_calls w at end
  pub place : part ≡ at + 4
