-- The status that the program ends with.
use Rattle.std.specs.Prelude.{ℕ, Result, Ok, Err}
use Rattle.twkb_tool.specs.declared.judge.Verdict.{Verdict}
use Rattle.twkb_tool.specs.declared.judge.Verdict.TheVariants.{Yes, No}
use Rattle.twkb_tool.specs.declared.run.RunFault.{RunFault}
use Rattle.twkb_tool.specs.declared.words.Usage.{Usage}
use Rattle.twkb_tool.specs.declared.words.Usage.TheVariants.{Words, TooMany, Window, Memory}
use Rattle.twkb_tool.specs.declared.status.HostFault.{HostFault}
use Rattle.twkb_tool.specs.declared.status.HostFault.TheVariants.{Words as NoWords, File}

-- 0 for a yes, 1 for a no, 3 if the run stopped
abbrev pub status_of_run : Result Verdict RunFault → ℕ
status_of_run (Ok Yes) = 0
status_of_run (Ok No) = 1
status_of_run (Err fault) = 3

-- 2 for words that request nothing, 3 if memory ran out
abbrev pub status_of_usage : Usage → ℕ
status_of_usage (Words error) = 2
status_of_usage TooMany = 2
status_of_usage (Window number why) = 2
status_of_usage Memory = 3

-- 3 if the words can't be read or the file can't be opened
abbrev pub status_of_host : HostFault → ℕ
status_of_host NoWords = 3
status_of_host File = 3
