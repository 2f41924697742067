-- The numbers of a line of the yard's log: decimal, 1 to 6 digits, soft bits to 8, no leading zero.
-- Assumes nothing.
use Rattle.std.specs.Prelude.{Bool, true, cond, ◌&&◌, Option, None, Some, is_some, unwrap_or, List, [], ◌∷◌, ℕ, zero, suc, eqb, ltb}
use Rattle.lines.specs.Line.{line_of}
use Rattle.line_words.specs.Words.{word_at}
use Rattle.requests.specs.declared.Form.{Form}

-- how many digits word i may have: soft bits more than the other numbers
unfoldable pub digits_at : Form → ℕ → ℕ
digits_at f i = elim f.soft [ None ↦ 6 | Some s ↦ cond (eqb s i) 8 6 ]

-- word i of a line as a number, or none where it says none
unfoldable pub read_word : List ℕ → Form → ℕ → Option ℕ
read_word l f i = line_of (digits_at f i) (word_at l i)

-- word i of a line says a number
unfoldable pub says_number : List ℕ → Form → ℕ → Bool
says_number l f i = is_some (read_word l f i)

-- the number that word i says, 0 where it says none
unfoldable pub number_at : List ℕ → Form → ℕ → ℕ
number_at l f i = unwrap_or (read_word l f i) 0

-- n words from word i on say numbers
unfoldable pub said_from : List ℕ → Form → ℕ → ℕ → Bool
said_from l f i zero = true
said_from l f i (suc n) = says_number l f i && said_from l f (suc i) n

-- number i of a line, 0 where its form has fewer
unfoldable pub field : List ℕ → Form → ℕ → ℕ
field l f i = cond (ltb f.numbers i) 0 (number_at l f i)

-- the numbers of a line
unfoldable pub fields : List ℕ → Form → List ℕ
fields l f =
    field l f 1
    ∷ field l f 2
    ∷ field l f 3
    ∷ field l f 4
    ∷ field l f 5
    ∷ field l f 6
    ∷ field l f 7
    ∷ field l f 8
    ∷ field l f 9
    ∷ []
