-- The kinds of nodes, by their numbers (01, Tree, "Kinds: 1 Program (p list), ..").
-- Assumes nothing.
use Rattle.std.specs.Prelude.{ℕ}

abbrev pub Program : ℕ
Program = 1

abbrev pub If : ℕ
If = 2

abbrev pub While : ℕ
While = 3

abbrev pub For : ℕ
For = 4

abbrev pub Def : ℕ
Def = 5

abbrev pub Return : ℕ
Return = 6

abbrev pub Assign : ℕ
Assign = 7

abbrev pub Class : ℕ
Class = 8

abbrev pub Break : ℕ
Break = 9

abbrev pub Continue : ℕ
Continue = 10

abbrev pub Pass : ℕ
Pass = 11

abbrev pub Expr : ℕ
Expr = 12

abbrev pub Method : ℕ
Method = 13

abbrev pub Elif : ℕ
Elif = 14

abbrev pub Else : ℕ
Else = 15

abbrev pub Name : ℕ
Name = 16

abbrev pub Pair : ℕ
Pair = 17

abbrev pub Bool : ℕ
Bool = 18

abbrev pub Int : ℕ
Int = 19

abbrev pub String : ℕ
String = 20

abbrev pub Float : ℕ
Float = 21

abbrev pub None : ℕ
None = 22

abbrev pub Variable : ℕ
Variable = 23

abbrev pub Unary : ℕ
Unary = 24

abbrev pub Binary : ℕ
Binary = 25

abbrev pub Call : ℕ
Call = 26

abbrev pub Attribute : ℕ
Attribute = 27

abbrev pub List : ℕ
List = 28

abbrev pub Dict : ℕ
Dict = 29

abbrev pub Tuple : ℕ
Tuple = 30

abbrev pub Set : ℕ
Set = 31

abbrev pub TreeSet : ℕ
TreeSet = 32

abbrev pub Index : ℕ
Index = 33

abbrev pub Lambda : ℕ
Lambda = 34
