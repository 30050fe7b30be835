-- `levels::is_operator` meets its contract: an arm for each level.
use Rattle.levels.proofs.is_operator.Goals as goal

pub returns-in-Or : goal.returns-in-Or
returns-in-Or c = rw c.in-Or.is c.is_symbol.ensures

pub returns-in-And : goal.returns-in-And
returns-in-And c = rw c.in-And.is c.is_symbol-in-And.ensures

pub returns-in-Comparison : goal.returns-in-Comparison
returns-in-Comparison c = rw c.in-Comparison.is c.is_comparison.ensures

pub returns-in-Sum : goal.returns-in-Sum
returns-in-Sum c = rw c.in-Sum.is c.is_add.ensures

pub returns-in-Product : goal.returns-in-Product
returns-in-Product c = rw c.in-Product.is c.is_multiply.ensures
