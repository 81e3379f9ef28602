-- The matches and the faults that clap finds in the program's words.
use Rattle.twkb_tool.proofs.Prelude.{◌≡◌, ◌∙◌, List, [], true, refl, ap, subst, inl, inr, Ok, Err, Result, option_map, fault_of, is_simple_and_free, FailsBy, HasKind, IsAmong, Kinds, App, Text, all_of, first_of, is_simple, rows_of, subcommand_of, subcommand_rows_of, HasMatchesOf, clap_on_literals, first_value-rows, raw_values-rows, tool_app}
use Rattle.clap.specs.Matches.{first_value, matched_of, raw_values}
use Rattle.clap.specs.Values.{kind_of}
use Rattle.clap.specs.declared.error.Error.{Error}
use Rattle.clap.specs.declared.error.kind.ErrorKind.TheVariants.{OutOfMemory}
use Rattle.clap.specs.declared.parser.matches.ArgMatches.{ArgMatches}
use Rattle.clap.specs.declared.parser.matches.Found.{Found}

tool_is_simple : is_simple tool_app ≡ true
unfolding clap_on_literals tool_app
tool_is_simple = refl

tool_is_free : is_simple_and_free tool_app ≡ true
unfolding clap_on_literals tool_app
tool_is_free = refl

-- the matches of the program are the matches of the definition
pub tool_rows : (a : App) (words : List Text) (m : ArgMatches) → a ≡ tool_app → HasMatchesOf a words m
    → subcommand_rows_of m ≡ subcommand_of tool_app words
tool_rows a words m e h = (h (rw e tool_is_simple)).1 ∙ ap (λ (x : App). subcommand_of x words) e

-- the faults of the program's words are the faults of the definition
tool_faults : {T : Type 0} (a : App) (words : List Text) (r : Result T Error) → a ≡ tool_app
    → (is_simple_and_free a ≡ true → FailsBy (fault_of a words) r) → FailsBy (fault_of tool_app words) r
tool_faults a words r e h = subst (λ (x : App). FailsBy (fault_of x words) r) e (h (rw e tool_is_free))

-- if there are matches, there is no fault
pub tool_has_no_fault : (a : App) (words : List Text) (m : ArgMatches) → a ≡ tool_app
    → (is_simple_and_free a ≡ true → fault_of a words ≡ []) → fault_of tool_app words ≡ []
tool_has_no_fault a words m e h = tool_faults a words (Ok m) e h

among : (kinds : Kinds) (error : Error) → HasKind kinds error → (kind_of error ≡ OutOfMemory → ⊥) → IsAmong (kind_of error) kinds
among kinds error (inl h) other = absurd (other h)
among kinds error (inr h) other = h

-- an error that isn't for memory has one of the kinds of the faults
pub tool_error_kind : (a : App) (words : List Text) (error : Error) → a ≡ tool_app
    → (is_simple_and_free a ≡ true → HasKind (fault_of a words) error) → (kind_of error ≡ OutOfMemory → ⊥)
    → IsAmong (kind_of error) (fault_of tool_app words)
tool_error_kind a words error e h other =
    among (fault_of tool_app words) error (tool_faults {T = ArgMatches} a words (Err error) e h) other

-- the values that the getters return, in the rows of the matches
pub first_value_rows : (f : Found) (id : Text) → first_value f id ≡ first_of id (rows_of f)
first_value_rows = first_value-rows

pub raw_values_rows : (f : Found) (id : Text) → option_map raw_values (matched_of f id) ≡ all_of id (rows_of f)
raw_values_rows = raw_values-rows
