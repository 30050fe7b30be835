-- Which words the patterns of the raw tokens match (01, Raw tokens; names: 02, change 1): nothing here says how long a match is or which one is taken. A word is a
-- list of bytes. A pattern stands for a set of words, made as regular expressions make them.
-- Assumes nothing.
use Rattle.std.specs.Prelude.{ℕ, ◌≡◌, Bool, true, not, ◌||◌, List, [], ◌∷◌, ◌++◌, eqb}
use Rattle.source.specs.Bytes.{digit}
use Rattle.utf8.specs.Character.{code_point}
use Rattle.raw_token.specs.Pattern.{begins_name_lem, continues_name, is_sign_lem, is_dot, is_e}
use Rattle.raw_token.specs.Table.{Pattern, literal, int, string, name, float}
use Rattle.lexical.specs.Characters.{is_character}

-- a set of words
abbrev pub Words : Type 1
Words = List ℕ → Type 0

-- one byte of a class
pub data Byte (c : ℕ → Bool) : List ℕ → Type 0 where
  byte : (b : ℕ) → c b ≡ true → Byte c (b ∷ [])

-- one character of a class: a well-formed sequence (table 3-7) whose code point is of the class
pub data Character (c : ℕ → Bool) : List ℕ → Type 0 where
  character : {w : List ℕ} → is_character w ≡ true → c (code_point w) ≡ true → Character c w

infixl 30 ◌then◌
infixl 20 ◌or◌
-- a word of p, and then one of q
pub data ◌then◌ (p q : Words) : List ℕ → Type 0 where
  joined : {u v : List ℕ} → p u → q v → (p then q) (u ++ v)

-- a word of p, or one of q
pub data ◌or◌ (p q : Words) : List ℕ → Type 0 where
  left : {w : List ℕ} → p w → (p or q) w
  right : {w : List ℕ} → q w → (p or q) w

-- a word of p, or nothing
pub data Optional (p : Words) : List ℕ → Type 0 where
  absent : Optional p []
  present : {w : List ℕ} → p w → Optional p w

-- one or more words of p
pub data Some (p : Words) : List ℕ → Type 0 where
  last : {w : List ℕ} → p w → Some p w
  more : {u v : List ℕ} → p u → Some p v → Some p (u ++ v)

-- none or more words of p
abbrev pub Many : Words → Words
Many p = Optional (Some p)

abbrev pub Digits : Words
Digits = Some (Byte digit)

-- "Int: optional sign, digits"
abbrev pub Int : Words
Int = Optional (Byte is_sign_lem) then Digits

-- "dot, digits"
abbrev pub Fraction : Words
Fraction = Byte is_dot then Digits

-- "e or E, optional sign, digits"
abbrev pub Exponent : Words
Exponent = Byte is_e then Int

-- "Float: digits, dot, digits, optional e or E, optional sign, digits; no leading sign". What is optional is the exponent as a whole
abbrev pub Float : Words
Float = Digits then Fraction then Optional Exponent

-- "A name now begins with an XID_Start character or underscore and continues with XID_Continue" (02, change 1)
abbrev pub Name : Words
Name = Character begins_name_lem then Many (Character continues_name)

-- the byte k
abbrev pub is : ℕ → ℕ → Bool
is k b = eqb b k

-- between two quotes q: a byte that is neither the quote nor a backslash ("line feeds allowed"), or "a backslash with any character but a line
-- feed". Of a character over 127 behind a backslash its first byte is the one meant, and the others are such bytes as before
abbrev pub Piece : ℕ → Words
Piece q = Byte (λ (b : ℕ). not (is q b || is 92 b)) or Byte (is 92) then Byte (λ (b : ℕ). not (is 10 b))

-- "same quote at both ends"
abbrev pub Quoted : ℕ → Words
Quoted q = Byte (is q) then Many (Piece q) then Byte (is q)

-- "String": between " or between '
abbrev pub String : Words
String = Quoted 34 or Quoted 39

-- the words of a pattern
abbrev pub Matches : Pattern → List ℕ → Type 0
Matches (literal t) w = w ≡ t
Matches int w = Int w
Matches string w = String w
Matches name w = Name w
Matches float w = Float w
