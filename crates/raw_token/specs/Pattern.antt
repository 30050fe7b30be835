-- The patterns of the raw tokens (01, Raw tokens; names: 02, change 1). Each is a function of a list of bytes: the length of its longest match at the front, and 0
-- where it has none. No pattern matches the empty list of bytes, so 0 says nothing else.
-- Assumes nothing.
use Rattle.std.specs.Prelude.{ℕ, zero, suc, ◌+◌, Bool, true, false, cond, ◌&&◌, ◌||◌, List, [], ◌∷◌, eqb, length, drop}
use Rattle.source.specs.Bytes.{digit, run}
use Rattle.utf8.specs.Table.{sequence_length}
use Rattle.utf8.specs.Character.{first_code}
use Rattle.xid.specs.Classes.{is_start_lem, is_continue_lem}

-- "A name now begins with an XID_Start character or underscore and continues with XID_Continue" (02, change 1). A character is its code point.

abbrev pub begins_name_lem : ℕ → Bool
begins_name_lem c = is_start_lem c || eqb c 95

abbrev pub continues_name : ℕ → Bool
continues_name c = is_continue_lem c

-- + and -
abbrev pub is_sign_lem : ℕ → Bool
is_sign_lem b = eqb b 43 || eqb b 45

-- .
abbrev pub is_dot : ℕ → Bool
is_dot b = eqb b 46

-- e and E
abbrev pub is_e : ℕ → Bool
is_e b = eqb b 101 || eqb b 69

-- " and '
abbrev pub is_quote : ℕ → Bool
is_quote b = eqb b 34 || eqb b 39

-- k bytes and then n more, or no match where the n more are none
unfoldable pub behind : ℕ → ℕ → ℕ
behind k zero = zero
behind k (suc n) = k + suc n

-- one byte of a class
abbrev pub one : (ℕ → Bool) → List ℕ → ℕ
one p [] = 0
one p (b ∷ l) = cond (p b) 1 0

-- one character of a class: the bytes of the well-formed sequence at the front, where its code point is of the class. Where no such sequence begins, 0
abbrev pub character : (ℕ → Bool) → List ℕ → ℕ
character p l = cond (p (first_code l)) (sequence_length l) 0

-- characters of a class one after the other, n of them at most; where none is left, each further one adds 0
abbrev pub at_most : ℕ → (ℕ → Bool) → List ℕ → ℕ
at_most zero p l = 0
at_most (suc n) p l = character p l + at_most n p (drop (character p l) l)

-- as many characters of a class as stand at the front: no list has more than it has bytes
abbrev pub many : (ℕ → Bool) → List ℕ → ℕ
many p l = at_most (length l) p l

-- p and then q
abbrev pub seq : (List ℕ → ℕ) → (List ℕ → ℕ) → List ℕ → ℕ
seq p q l = cond (eqb (p l) 0) 0 (behind (p l) (q (drop (p l) l)))

-- perhaps p, and then q
abbrev pub maybe : (List ℕ → ℕ) → (List ℕ → ℕ) → List ℕ → ℕ
maybe p q l = behind (p l) (q (drop (p l) l))

-- p, and then perhaps q
abbrev pub and_maybe : (List ℕ → ℕ) → (List ℕ → ℕ) → List ℕ → ℕ
and_maybe p q l = cond (eqb (p l) 0) 0 (p l + q (drop (p l) l))

-- whether the bytes w stand at the front
abbrev pub is_prefix : List ℕ → List ℕ → Bool
is_prefix [] l = true
is_prefix (a ∷ w) [] = false
is_prefix (a ∷ w) (b ∷ l) = eqb b a && is_prefix w l

-- the bytes w: a keyword, an operator, a mark
unfoldable pub literal : List ℕ → List ℕ → ℕ
literal w l = cond (is_prefix w l) (length w) 0

-- "Name": a character that begins one, then characters that continue it (02, change 1)
unfoldable pub name : List ℕ → ℕ
name = and_maybe (character begins_name_lem) (many continues_name)

-- "Int: optional sign, digits"
unfoldable pub int : List ℕ → ℕ
int = maybe (one is_sign_lem) (run digit)

-- "dot, digits"
unfoldable pub fraction : List ℕ → ℕ
fraction = seq (one is_dot) (run digit)

-- "e or E, optional sign, digits"
unfoldable pub exponent : List ℕ → ℕ
exponent = seq (one is_e) int

-- "Float: digits, dot, digits, optional e or E, optional sign, digits; no leading sign". What is optional is the exponent as a whole
-- (src/lexer/raw_token.rs has a pattern with it and one without)
unfoldable pub float : List ℕ → ℕ
float = and_maybe (seq (run digit) fraction) exponent

-- What follows an opening quote q, up to and with the closing one: "same quote at both ends, line feeds allowed, a backslash with any character
-- but a line feed". `escaped` says that the byte before is a backslash that is not escaped itself. Of an escaped character over 127 its first
-- byte is the escaped one, and the others are plain, being neither a quote nor a backslash: in well-formed UTF-8 the length is that by characters
-- (`string_is`, lexical/proofs/Strings.antt)
abbrev pub body : ℕ → Bool → List ℕ → ℕ
body q escaped [] = 0
body q true (b ∷ l) = cond (eqb b 10) 0 (behind 1 (body q false l))
body q false (b ∷ l) = cond (eqb b q) 1 (behind 1 (body q (eqb b 92) l))

-- "String": a quote and what follows it
abbrev pub string : List ℕ → ℕ
string [] = 0
string (q ∷ l) = cond (is_quote q) (behind 1 (body q false l)) 0
