-- The lines that are printed for a capture (document 02, W1), byte by byte. Assumes nothing.
use Rattle.std.specs.Prelude.{ℕ, Option, Some, None, List, [], ◌∷◌, ◌++◌}
use Rattle.text.specs.Text.{decimal, hex_byte}
use Rattle.capture.specs.declared.Word.{Word}
use Rattle.capture.specs.declared.Word.TheVariants.{Budget, BadKind, BadTail, BadHead}

abbrev pub space : ℕ
space = 0x20

abbrev pub newline : ℕ
newline = 0x0a

-- "Each record prints the refusal number, a space, and two hex digits"
unfoldable pub line_of : ℕ → ℕ → List ℕ
line_of refusal byte = decimal refusal ++ (space ∷ hex_byte byte ++ (newline ∷ []))

-- two bytes of the answers make a line
unfoldable pub lines_of : List ℕ → List ℕ
lines_of [] = []
lines_of (refusal ∷ []) = []
lines_of (refusal ∷ byte ∷ rest) = line_of refusal byte ++ lines_of rest

-- a line of its own: "budget", "bad kind", "bad tail", "bad head"
unfoldable pub word_text : Option Word → List ℕ
word_text None = []
word_text (Some Budget) = 0x62 ∷ 0x75 ∷ 0x64 ∷ 0x67 ∷ 0x65 ∷ 0x74 ∷ newline ∷ []
word_text (Some BadKind) = 0x62 ∷ 0x61 ∷ 0x64 ∷ space ∷ 0x6b ∷ 0x69 ∷ 0x6e ∷ 0x64 ∷ newline ∷ []
word_text (Some BadTail) = 0x62 ∷ 0x61 ∷ 0x64 ∷ space ∷ 0x74 ∷ 0x61 ∷ 0x69 ∷ 0x6c ∷ newline ∷ []
word_text (Some BadHead) = 0x62 ∷ 0x61 ∷ 0x64 ∷ space ∷ 0x68 ∷ 0x65 ∷ 0x61 ∷ 0x64 ∷ newline ∷ []

-- "A line 'cycles N' comes last, N being the records played."
unfoldable pub cycles_text : ℕ → List ℕ
cycles_text n = (0x63 ∷ 0x79 ∷ 0x63 ∷ 0x6c ∷ 0x65 ∷ 0x73 ∷ space ∷ []) ++ (decimal n ++ (newline ∷ []))

-- "prints 'bad head' alone"
unfoldable pub last_text : Option Word → ℕ → List ℕ
last_text None n = cycles_text n
last_text (Some Budget) n = cycles_text n
last_text (Some BadKind) n = cycles_text n
last_text (Some BadTail) n = cycles_text n
last_text (Some BadHead) n = []

-- of the answers' bytes, the word and the count
unfoldable pub text_of : List ℕ → Option Word → ℕ → List ℕ
text_of answers w n = lines_of answers ++ (word_text w ++ last_text w n)
