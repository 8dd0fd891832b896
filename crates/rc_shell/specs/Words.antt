-- What the words behind the program's name ask for.
use Rattle.std.specs.Prelude.{ℕ, List, [], ◌∷◌, codes, drop, nat_le, take, ◌&&◌, if◌then◌else◌}
use Rattle.std.specs.Option.{option_map_or}
use Rattle.rc_spelling.specs.Numbers.{number_of}
use Rattle.rc_spelling.specs.Words.{is_word}
use Rattle.rc_shell.specs.declared.words.Words.{Words}
use Rattle.rc_shell.specs.declared.words.Words.TheVariants.{Run, Refused}

-- a run with a budget of so many segments, from 4 to 4096
abbrev pub run_of : List ℕ → Words
run_of number = option_map_or (λ n. if nat_le 4 n then Run n else Refused) (number_of 4096 number) Refused

-- The word `run` is a run, with a budget of 32 segments, or of N behind it by `--segments N` or `--segments=N`; all other words are refused.
abbrev pub words_of : List (List ℕ) → Words
words_of (word ∷ []) = if is_word word (codes "run") then Run 32 else Refused
words_of (word ∷ option ∷ []) = if is_word word (codes "run") && is_word (take 11 option) (codes "--segments=") then run_of (drop 11 option) else Refused
words_of (word ∷ option ∷ number ∷ []) = if is_word word (codes "run") && is_word option (codes "--segments") then run_of number else Refused
words_of words = Refused

-- the budget of a run, in segments
abbrev pub segments_of : Words → ℕ
segments_of (Run segments) = segments
segments_of Refused = 0
