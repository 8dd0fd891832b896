-- Each command that names no partition has a line, which is read back as it.
use Rattle.std.proofs.Common.{◌≡◌, ◌≤◌, ◌<◌, ◌^◌, ◌+◌, ℕ, false, ◌==◌, nat_lt, List, [], ◌∷◌, ◌++◌, length, refl, ap, ◌∙◌, subst, arith}
use Rattle.std.specs.Prelude.{All, codes, Ok, Err, if◌then◌else◌, option_and_then}
use Rattle.std.specs.declared.option.Option.{Option}
use Rattle.std.specs.declared.option.Option.TheVariants.{Some, None}
use Rattle.std.specs.Fmt.{decimal}
use Rattle.std.specs.List.{slice_split}
use Rattle.std.specs.Option.{option_map, option_or}
use Rattle.std.proofs.lemmas.Bool.Decides.{nat_tests}
use Rattle.std.proofs.lemmas.Fmt.{length-decimal-le}
use Rattle.std.proofs.lemmas.List.Splits.{slice_split_none, slice_split_at}
use Rattle.std.proofs.lemmas.List.{length-append}
use Rattle.rc_schema.specs.SchemaValue.{SchemaValue}
use Rattle.rc_spelling.specs.Words.{words}
use Rattle.rc_lines.specs.declared.commands.Command.{Command}
use Rattle.rc_lines.specs.declared.commands.Command.TheVariants.{Nothing, SetSchema, Put, OpenRead, Read, Close, Flush, FlushBegin, FlushStep, Evict, Compact, Clean, Stats}
use Rattle.rc_lines.specs.declared.commands.Refusal.TheVariants.{BadLine}
use Rattle.rc_lines.specs.declared.shapes.Shape.TheVariants.{Plain}
use Rattle.rc_lines.specs.Grammar.{longest_line, is_comment, schema_said, parse}
use Rattle.rc_lines.specs.calls.ByShape.{shape_meaning, line_meaning, parse_by_shape}
use Rattle.rc_lines.specs.Parts.{without_front}
use Rattle.rc_lines.specs.Plain.{HasCounts, IsCount, plain_line}
use Rattle.rc_lines.specs.calls.Shapes.{shape_of, bare_of, command_of_number, command_of_two_words, command_of_three_words, read_of, step_of, write_of}
use Rattle.rc_lines.specs.calls.ShapeMeaning.{meaning, refusal_of}
use Rattle.rc_lines.specs.laws.ByShape.{by_shape}
use Rattle.rc_lines.specs.laws.Spaces.{number_spaceless}
use Rattle.rc_lines.specs.laws.Spelled.{count_back}

-- a line of one shape that is the same under each schema
told : (schema : SchemaValue) (line : List ℕ) (command : Command) → length line ≤ 65536 → is_comment line ≡ false → schema_said line ≡ None → shape_of (words line) ≡ Some (Plain command) → parse (Some schema) line ≡ Ok command
unfolding parse_by_shape meaning refusal_of
told schema line command short said_some no_schema shape =
    let fits : nat_lt longest_line (length line) ≡ false = grind (arith, nat_tests) in
    by_shape (Some schema) line
    ∙ (λ i. if fits i then Err BadLine else if said_some i then Ok Nothing else line_meaning (Some schema) line (no_schema i)) ∙ ap (shape_meaning (Some schema)) shape

-- ---- a count as a word

small : (n : ℕ) → n ≤ 4294967295 → n < 2 ^ 64
small n h = omega arith

count_word : (n : ℕ) → IsCount n → All (λ x. (x == 32) ≡ false) (decimal n)
count_word n is = number_spaceless n (small n is.1)

one_word : (n : ℕ) → IsCount n → slice_split (λ byte. byte == 32) (decimal n) ≡ decimal n ∷ []
one_word n is = slice_split_none (λ byte. byte == 32) (decimal n) (count_word n is)

two_words : (n m : ℕ) → IsCount n → IsCount m → slice_split (λ byte. byte == 32) (decimal n ++ 32 ∷ decimal m) ≡ decimal n ∷ decimal m ∷ []
two_words n m is other = slice_split_at (λ byte. byte == 32) (decimal n) 32 (decimal m) (count_word n is) refl ∙ ap (λ ws. decimal n ∷ ws) (one_word m other)

few_digits : (n : ℕ) → IsCount n → length (decimal n) ≤ 10
few_digits n is = length-decimal-le 10 n (omega arith) (let most : n ≤ 4294967295 = is.1 in omega arith) (small n is.1)

-- ---- the lines

module _ (schema : SchemaValue) where
  stats_back : parse (Some schema) (codes "stats") ≡ Ok Stats
  unfolding schema_said without_front bare_of
  stats_back = told schema (codes "stats") Stats (omega arith) refl refl refl

  flush_back : parse (Some schema) (codes "flush") ≡ Ok Flush
  unfolding schema_said without_front bare_of
  flush_back = told schema (codes "flush") Flush (omega arith) refl refl refl

  begin_back : parse (Some schema) (codes "flush begin") ≡ Ok FlushBegin
  unfolding schema_said without_front command_of_two_words
  begin_back = told schema (codes "flush begin") FlushBegin (omega arith) refl refl refl

  module _ (n : ℕ) (is : IsCount n) where
    few : length (decimal n) ≤ 10
    few = few_digits n is

    close_back : parse (Some schema) (codes "close " ++ decimal n) ≡ Ok (Close n)
    unfolding schema_said without_front command_of_two_words command_of_number
    close_back =
        told schema (codes "close " ++ decimal n) (Close n) (let most = few in omega arith) refl refl
        (ap (λ ws. shape_of (codes "close" ∷ ws)) (one_word n is)
        ∙ ap (λ o. option_or (option_map (λ command. Plain command) (option_and_then (command_of_number (codes "close")) o)) (write_of (codes "close") (decimal n ∷ []))) (count_back n is.0 is.1))

    evict_back : parse (Some schema) (codes "evict " ++ decimal n) ≡ Ok (Evict n)
    unfolding schema_said without_front command_of_two_words command_of_number
    evict_back =
        told schema (codes "evict " ++ decimal n) (Evict n) (let most = few in omega arith) refl refl
        (ap (λ ws. shape_of (codes "evict" ∷ ws)) (one_word n is)
        ∙ ap (λ o. option_or (option_map (λ command. Plain command) (option_and_then (command_of_number (codes "evict")) o)) (write_of (codes "evict") (decimal n ∷ []))) (count_back n is.0 is.1))

    compact_back : parse (Some schema) (codes "compact " ++ decimal n) ≡ Ok (Compact n)
    unfolding schema_said without_front command_of_two_words command_of_number
    compact_back =
        told schema (codes "compact " ++ decimal n) (Compact n) (let most = few in omega arith) refl refl
        (ap (λ ws. shape_of (codes "compact" ∷ ws)) (one_word n is)
        ∙ ap (λ o. option_or (option_map (λ command. Plain command) (option_and_then (command_of_number (codes "compact")) o)) (write_of (codes "compact") (decimal n ∷ []))) (count_back n is.0 is.1))

    clean_back : parse (Some schema) (codes "clean " ++ decimal n) ≡ Ok (Clean n)
    unfolding schema_said without_front command_of_two_words command_of_number
    clean_back =
        told schema (codes "clean " ++ decimal n) (Clean n) (let most = few in omega arith) refl refl
        (ap (λ ws. shape_of (codes "clean" ∷ ws)) (one_word n is)
        ∙ ap (λ o. option_or (option_map (λ command. Plain command) (option_and_then (command_of_number (codes "clean")) o)) (write_of (codes "clean") (decimal n ∷ []))) (count_back n is.0 is.1))

    step_back : parse (Some schema) (codes "flush step " ++ decimal n) ≡ Ok (FlushStep n)
    unfolding schema_said without_front command_of_three_words step_of
    step_back =
        told schema (codes "flush step " ++ decimal n) (FlushStep n) (let most = few in omega arith) refl refl
        (ap (λ ws. shape_of (codes "flush" ∷ codes "step" ∷ ws)) (one_word n is)
        ∙ ap (λ o. option_or (option_map (λ command. Plain command) (option_map (λ n. FlushStep n) o)) (write_of (codes "flush") (codes "step" ∷ decimal n ∷ []))) (count_back n is.0 is.1))

    module _ (m : ℕ) (other : IsCount m) where
      long_enough : length (decimal n ++ 32 ∷ decimal m) ≤ 21
      long_enough =
          let most : length (decimal n) ≤ 10 = few in
          let more : length (decimal m) ≤ 10 = few_digits m other in
          let both : length (decimal n ++ 32 ∷ decimal m) ≡ length (decimal n) + length (32 ∷ decimal m) = length-append (decimal n) (32 ∷ decimal m) in
          omega arith

      read_back : parse (Some schema) (codes "read " ++ (decimal n ++ 32 ∷ decimal m)) ≡ Ok (Read n m)
      unfolding schema_said without_front command_of_three_words read_of
      read_back =
          told schema (codes "read " ++ (decimal n ++ 32 ∷ decimal m)) (Read n m) (let most = long_enough in omega arith) refl refl
          (ap (λ ws. shape_of (codes "read" ∷ ws)) (two_words n m is other)
          ∙ (λ i. option_or (option_map (λ command. Plain command) (option_and_then (λ a. option_map (λ b. Read a b) (count_back m other.0 other.1 i)) (count_back n is.0 is.1 i))) (write_of (codes "read") (decimal n ∷ decimal m ∷ []))))

at_line : (schema : SchemaValue) (command : Command) (made line : List ℕ) → ◌≡◌ {A = Option (List ℕ)} (Some made) (Some line) → parse (Some schema) made ≡ Ok command → parse (Some schema) line ≡ Ok command
at_line schema command made line e h = let same : made ≡ line = cc in subst (λ l. parse (Some schema) l ≡ Ok command) same h

empty_back : (schema : SchemaValue) → parse (Some schema) [] ≡ Ok Nothing
unfolding parse
empty_back schema = refl

-- the line of a command that names no partition is read back as it
pub plain_back : (schema : SchemaValue) (command : Command) (line : List ℕ) → plain_line command ≡ Some line → HasCounts command → parse (Some schema) line ≡ Ok command
plain_back schema Nothing line e h = at_line schema Nothing [] line e (empty_back schema)
plain_back schema (SetSchema lists) line e h = absurd (cc)
plain_back schema (Put write) line e h = absurd (cc)
plain_back schema (OpenRead id key slice) line e h = absurd (cc)
plain_back schema (Read id count) line e h = at_line schema (Read id count) _ line e (read_back schema id h.0 count h.1)
plain_back schema (Close id) line e h = at_line schema (Close id) _ line e (close_back schema id h)
plain_back schema Flush line e h = at_line schema Flush _ line e (flush_back schema)
plain_back schema FlushBegin line e h = at_line schema FlushBegin _ line e (begin_back schema)
plain_back schema (FlushStep count) line e h = at_line schema (FlushStep count) _ line e (step_back schema count h)
plain_back schema (Evict count) line e h = at_line schema (Evict count) _ line e (evict_back schema count h)
plain_back schema (Compact count) line e h = at_line schema (Compact count) _ line e (compact_back schema count h)
plain_back schema (Clean count) line e h = at_line schema (Clean count) _ line e (clean_back schema count h)
plain_back schema Stats line e h = at_line schema Stats _ line e (stats_back schema)
