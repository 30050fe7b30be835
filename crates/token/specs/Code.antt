-- The codes of the tokens: "A token's code is its position in `Token`, from If = 1 to Eof = 49" (01, Raw tokens; the order is that of
-- src/lexer/token.rs, without its Error). `order` lists them, and proofs/Order.antt shows that each stands at its place.
-- Assumes nothing.
use Rattle.std.specs.Prelude.{ℕ, List, [], ◌∷◌}

abbrev pub If : ℕ
If = 1

abbrev pub Elif : ℕ
Elif = 2

abbrev pub Else : ℕ
Else = 3

abbrev pub While : ℕ
While = 4

abbrev pub For : ℕ
For = 5

abbrev pub In : ℕ
In = 6

abbrev pub Def : ℕ
Def = 7

abbrev pub Return : ℕ
Return = 8

abbrev pub And : ℕ
And = 9

abbrev pub Or : ℕ
Or = 10

abbrev pub Not : ℕ
Not = 11

abbrev pub Class : ℕ
Class = 12

abbrev pub Break : ℕ
Break = 13

abbrev pub Continue : ℕ
Continue = 14

abbrev pub Pass : ℕ
Pass = 15

abbrev pub Lambda : ℕ
Lambda = 16

abbrev pub None : ℕ
None = 17

abbrev pub Bool : ℕ
Bool = 18

abbrev pub Int : ℕ
Int = 19

abbrev pub String : ℕ
String = 20

abbrev pub Identifier : ℕ
Identifier = 21

abbrev pub Float : ℕ
Float = 22

abbrev pub Plus : ℕ
Plus = 23

abbrev pub Minus : ℕ
Minus = 24

abbrev pub Star : ℕ
Star = 25

abbrev pub SlashSlash : ℕ
SlashSlash = 26

abbrev pub Slash : ℕ
Slash = 27

abbrev pub Percent : ℕ
Percent = 28

abbrev pub EqualEqual : ℕ
EqualEqual = 29

abbrev pub NotEqual : ℕ
NotEqual = 30

abbrev pub Less : ℕ
Less = 31

abbrev pub LessEqual : ℕ
LessEqual = 32

abbrev pub Greater : ℕ
Greater = 33

abbrev pub GreaterEqual : ℕ
GreaterEqual = 34

abbrev pub Equal : ℕ
Equal = 35

abbrev pub LParen : ℕ
LParen = 36

abbrev pub RParen : ℕ
RParen = 37

abbrev pub LBracket : ℕ
LBracket = 38

abbrev pub RBracket : ℕ
RBracket = 39

abbrev pub LBrace : ℕ
LBrace = 40

abbrev pub RBrace : ℕ
RBrace = 41

abbrev pub Colon : ℕ
Colon = 42

abbrev pub Comma : ℕ
Comma = 43

abbrev pub Semicolon : ℕ
Semicolon = 44

abbrev pub Dot : ℕ
Dot = 45

abbrev pub Indent : ℕ
Indent = 46

abbrev pub Dedent : ℕ
Dedent = 47

abbrev pub Newline : ℕ
Newline = 48

abbrev pub Eof : ℕ
Eof = 49

unfoldable pub order : List ℕ
order =
    If
    ∷ Elif
    ∷ Else
    ∷ While
    ∷ For
    ∷ In
    ∷ Def
    ∷ Return
    ∷ And
    ∷ Or
    ∷ Not
    ∷ Class
    ∷ Break
    ∷ Continue
    ∷ Pass
    ∷ Lambda
    ∷ None
    ∷ Bool
    ∷ Int
    ∷ String
    ∷ Identifier
    ∷ Float
    ∷ Plus
    ∷ Minus
    ∷ Star
    ∷ SlashSlash
    ∷ Slash
    ∷ Percent
    ∷ EqualEqual
    ∷ NotEqual
    ∷ Less
    ∷ LessEqual
    ∷ Greater
    ∷ GreaterEqual
    ∷ Equal
    ∷ LParen
    ∷ RParen
    ∷ LBracket
    ∷ RBracket
    ∷ LBrace
    ∷ RBrace
    ∷ Colon
    ∷ Comma
    ∷ Semicolon
    ∷ Dot
    ∷ Indent
    ∷ Dedent
    ∷ Newline
    ∷ Eof
    ∷ []
