-- Fixed data stands for itself.
use Rattle.qk_ast.specs.declared.Expr.{Expr, Row_of-Expr, end_of-Expr, more_of-Expr, Row_of-Field, end_of-Field, more_of-Field}
use Rattle.qk_meaning.specs.Value.{Value, Fields}
use Rattle.qk_meaning.specs.Roots.{negated, literal, literals, literal_fields}
use Rattle.qk_meaning.specs.Ties.{Ties, Stands, undefined, null, truth, int, words, ref, items, fields, elem, closure, by_symbol, lifted, All_stand, none_stand, item_stands, Fields_stand, end_stands}
use Rattle.qk_alike.proofs.Objects.{with_fields}

module _ (t : Ties) where
  negated_stands : {v w : Value} → Stands t v w → Stands t (negated v) (negated w)
  negated_stands int = int
  negated_stands undefined = undefined
  negated_stands null = null
  negated_stands truth = truth
  negated_stands words = words
  negated_stands (ref k) = ref k
  negated_stands (items h) = items h
  negated_stands (fields h) = fields h
  negated_stands (elem s f h) = elem s f h
  negated_stands (closure l p q h) = closure l p q h
  negated_stands (by_symbol l p h) = by_symbol l p h
  negated_stands (lifted e n h) = lifted e n h

  mutual
    pub literal_stands : (e : Expr) → Stands t (literal e) (literal e)
    literal_stands (Expr.Bool b) = truth
    literal_stands (Expr.Int n) = int
    literal_stands (Expr.Text w) = words
    literal_stands Expr.Null = null
    literal_stands (Expr.List' _ all) = items (literals_stand all)
    literal_stands (Expr.Record' _ all) = fields (literal_fields_stand all end_stands)
    literal_stands (Expr.Unary' op _ (more_of-Expr e _)) = negated_stands (literal_stands e)
    literal_stands _ = undefined

    literals_stand : {m : _} (all : Row_of-Expr m) → All_stand t (literals all) (literals all)
    literals_stand end_of-Expr = none_stand
    literals_stand (more_of-Expr e rest) = item_stands (literal_stands e) (literals_stand rest)

    literal_fields_stand : {m : _} (all : Row_of-Field m) {f g : Fields} → Fields_stand t f g → Fields_stand t (literal_fields all f) (literal_fields all g)
    literal_fields_stand end_of-Field h = h
    literal_fields_stand (more_of-Field key e rest) h = literal_fields_stand rest (with_fields key (literal_stands e) h)
