-- A grammar as data: what the ordered trial and the descent both read.
-- Assumes nothing.
use Rattle.std.specs.Prelude.{ℕ, List}

infixr 40 ◌⨾◌
infixr 30 ◌∕◌
-- A part of a rule, over the names R of the rules and the names Act of the actions. "It takes rules, lists, t and parentheses part by
-- part, as written above" (01, Grammar): a rule's part is written as 01 words it, with the actions that make its nodes.
pub data Part (Act R : Type 0) : Type 0 where
  skip : Part Act R  -- nothing: it always fits
  act : Act → Part Act R  -- it takes no token, and does this action to what is kept
  tok : List ℕ → Part Act R  -- one token of this set, which is taken
  see : List ℕ → Part Act R  -- one of this set stands next, and stays: "Eof fits as end and stays"
  call : R → Part Act R  -- a rule
  ◌⨾◌ : Part Act R → Part Act R → Part Act R  -- one after the other
  ◌∕◌ : Part Act R → Part Act R → Part Act R  -- "A choice keeps the first alternative that fits"
  many : Part Act R → Part Act R  -- "A repeated part is taken while it fits"
  tail : ℕ → Part Act R → Part Act R  -- the rest of a list: "a separator and the next member as one part", and one trailing separator

-- "What may be absent is tried, and left out where it fails."
abbrev pub opt : {Act R : Type 0} → Part Act R → Part Act R
opt p = p ∕ skip
