-- The table of raw tokens, and the token at a place: "The longest match wins; at equal length a keyword beats a name" (01, Raw tokens).
-- Assumes nothing.
use Rattle.std.specs.Prelude.{ℕ, ◌+◌, cond, List, [], ◌∷◌, Option, Some, None, ltb, eqb, drop}
use Prim.Native.String as S
use Rattle.source.specs.Text.{bytes}
use Rattle.token.specs.Code.{If, Elif, Else, While, For, In, Def, Return, And, Or, Not, Class, Break, Continue, Pass, Lambda}
use Rattle.token.specs.Code as Code
use Rattle.token.specs.Code.{Bool, Int, String, Identifier, Float}
use Rattle.token.specs.Code.{Plus, Minus, Star, SlashSlash, Slash, Percent, EqualEqual, NotEqual, Less, LessEqual, Greater, GreaterEqual, Equal}
use Rattle.token.specs.Code.{LParen, RParen, LBracket, RBracket, LBrace, RBrace, Colon, Comma, Semicolon, Dot, Newline}
use Rattle.raw_token.specs.Pattern as P
use Rattle.raw_token.specs.declared.RawToken.{RawToken}

pub data Pattern : Type 0 where
  literal : List ℕ → Pattern
  int string name float : Pattern

-- the length of a pattern's longest match at the front of a list, 0 where it has none
abbrev pub len : Pattern → List ℕ → ℕ
len (literal w) l = P.literal w l
len int l = P.int l
len string l = P.string l
len name l = P.name l
len float l = P.float l

-- a code and its pattern
abbrev pub Entry : Type 0
Entry = ℕ × Pattern

-- a token that is always the same text
abbrev pub text : ℕ → S.String → Entry
text code t = (code, literal (bytes t))

-- The patterns of src/lexer/raw_token.rs in the order of `Token` (src/lexer/token.rs), whose positions are the codes. Its Indent, Dedent and Eof
-- have no pattern; Bool has two
unfoldable pub table : List Entry
table =
    text If "if"
    ∷ text Elif "elif"
    ∷ text Else "else"
    ∷ text While "while"
    ∷ text For "for"
    ∷ text In "in"
    ∷ text Def "def"
    ∷ text Return "return"
    ∷ text And "and"
    ∷ text Or "or"
    ∷ text Not "not"
    ∷ text Class "class"
    ∷ text Break "break"
    ∷ text Continue "continue"
    ∷ text Pass "pass"
    ∷ text Lambda "lambda"
    ∷ text Code.None "None"
    ∷ text Bool "True"
    ∷ text Bool "False"
    ∷ (Int, int)
    ∷ (String, string)
    ∷ (Identifier, name)
    ∷ (Float, float)
    ∷ text Plus "+"
    ∷ text Minus "-"
    ∷ text Star "*"
    ∷ text SlashSlash "//"
    ∷ text Slash "/"
    ∷ text Percent "%"
    ∷ text EqualEqual "=="
    ∷ text NotEqual "!="
    ∷ text Less "<"
    ∷ text LessEqual "<="
    ∷ text Greater ">"
    ∷ text GreaterEqual ">="
    ∷ text Equal "="
    ∷ text LParen "("
    ∷ text RParen ")"
    ∷ text LBracket "["
    ∷ text RBracket "]"
    ∷ text LBrace "{"
    ∷ text RBrace "}"
    ∷ text Colon ":"
    ∷ text Comma ","
    ∷ text Semicolon ";"
    ∷ text Dot "."
    ∷ text Newline "\n"
    ∷ []

-- a match that is longer takes the place of the one before
abbrev pub longer : ℕ × ℕ → ℕ → ℕ → ℕ × ℕ
longer best code n = cond (ltb best.1 n) (code, n) best

-- the code and the length of the longest match, the first of several as long: so a keyword, which stands before the name, beats it
abbrev pub longest : ℕ × ℕ → List Entry → List ℕ → ℕ × ℕ
longest best [] l = best
longest best (e ∷ es) l = longest (longer best e.0 (len e.1 l)) es l

abbrev pub raw_token : ℕ → ℕ → RawToken
raw_token code end = record { code = code; end = end }

-- the token with the code and the length of `best` at the place `at`, and none where nothing matches
abbrev pub found : ℕ → ℕ × ℕ → Option RawToken
found at best = cond (eqb best.1 0) None (Some (raw_token best.0 (at + best.1)))

-- the token that starts at the place `at` of the source s
unfoldable pub token_at_lem : List ℕ → ℕ → Option RawToken
token_at_lem s at = found at (longest (0, 0) table (drop at s))
