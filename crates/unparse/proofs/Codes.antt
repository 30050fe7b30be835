-- A token tells what it stands for: the code of each sign, operator, word and literal is that of no other.
-- Assumes nothing.
use mathlib.Core.Path.{◌≡◌, refl}
use Rattle.unparse.specs.Trees.{Literal, Word, Sign, Op, Comparison, Alone, literal_code, word_code, sign_code, op_code, comparison_code, alone_kind}
use Rattle.unparse.specs.Operators.{sign_of, op_of, comparison_of}
use Rattle.unparse.proofs.Machine.{literal_of_lem, word_of, alone_of}

pub literal_is : (c : Literal) → literal_of_lem (literal_code c) ≡ c
unfolding literal_of_lem
literal_is Literal.int = refl
literal_is Literal.bool = refl
literal_is Literal.string = refl
literal_is Literal.float = refl
literal_is Literal.none = refl

pub word_is : (w : Word) → word_of (word_code w) ≡ w
unfolding word_of
word_is Word.tee = refl
word_is Word.identifier = refl

pub sign_is : (g : Sign) → sign_of (sign_code g) ≡ g
unfolding sign_of
sign_is Sign.negation = refl
sign_is Sign.negative = refl
sign_is Sign.positive = refl

pub op_is : (o : Op) → op_of (op_code o) ≡ o
unfolding op_of
op_is Op.or = refl
op_is Op.and = refl
op_is Op.plus = refl
op_is Op.minus = refl
op_is Op.star = refl
op_is Op.slashes = refl
op_is Op.slash = refl
op_is Op.percent = refl

pub comparison_is : (o : Comparison) → comparison_of (comparison_code o) ≡ o
unfolding comparison_of
comparison_is Comparison.less = refl
comparison_is Comparison.less_equal = refl
comparison_is Comparison.greater = refl
comparison_is Comparison.greater_equal = refl
comparison_is Comparison.equal = refl
comparison_is Comparison.not_equal = refl

pub alone_is : (w : Alone) → alone_of (alone_kind w) ≡ w
unfolding alone_of
alone_is Alone.break = refl
alone_is Alone.continue = refl
alone_is Alone.pass = refl
