-- How the run of a script ended, as the program says it.
use Rattle.std.specs.Prelude.{ℕ, List, [], ◌++◌, codes}
use Rattle.std.specs.Fmt.{decimal}
use Rattle.hibitset_run.specs.declared.script.text.Ended.{Ended}
use Rattle.hibitset_run.specs.declared.script.text.Ended.TheVariants.{Done, BadLine, NoMemory, InputFailed, OutputFailed}

-- the exit status
abbrev pub status_of : Ended → ℕ
status_of Done = 0
status_of (BadLine number) = 2
status_of NoMemory = 3
status_of InputFailed = 4
status_of OutputFailed = 5

-- the text on standard error
abbrev pub text_of : Ended → List ℕ
text_of Done = []
text_of (BadLine number) = codes "bad line " ++ decimal number
text_of NoMemory = codes "no memory"
text_of InputFailed = codes "input failed"
text_of OutputFailed = codes "output failed"
