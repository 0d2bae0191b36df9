-- A whole script: its lines, what they are answered one after another, and how a run ends.
use Rattle.std.specs.Prelude.{◌≡◌, ◌⊎◌, ◌==◌, ◌++◌, ◌∷◌, [], ℕ, List, Option, Some, None, String, bytes_eq, codes, map, length, nat_le, string_bytes, take, if◌then◌else◌}
use Rattle.std.specs.List.{slice_split}
use Rattle.std.specs.Io.KnownBytes.{Appends}
use Rattle.par_io.specs.Faults.{Rose}
use Rattle.par_shell.specs.Lines.{IsAnswered, IsShell, Opens}
use Rattle.shell_lines.specs.Words.{number_in}
use Rattle.par_shell.specs.declared.shell.Shell.{Shell}
use Rattle.par_shell.specs.declared.status.TheConstants.{ANSWERED, MISUSED, NO_MEMORY, READ_FAULT, TOO_LARGE, WRITE_FAULT}

-- pieces without the last if it is empty
abbrev pub without_empty_last : List (List ℕ) → List (List ℕ)
without_empty_last [] = []
without_empty_last ([] ∷ []) = []
without_empty_last (piece ∷ pieces) = piece ∷ without_empty_last pieces

-- the lines of a script
abbrev pub lines_of : List ℕ → List (List ℕ)
lines_of script = without_empty_last (slice_split (λ byte. byte == 10) script)

-- answers as they are written, each ended by a line feed
abbrev pub written : List (List ℕ) → List ℕ
written [] = []
written (answer ∷ answers) = answer ++ (10 ∷ written answers)

-- lines are answered one after another, and lead from a shell to another
abbrev pub Runs : Shell → List (List ℕ) → List (List ℕ) → Shell → Type 0
Runs s [] [] t = t ≡ s
Runs s (line ∷ lines) (answer ∷ answers) t = (next : Shell) × IsAnswered s next line answer × Runs next lines answers t
Runs s lines answers t = ⊥

-- the bytes of each word
abbrev pub texts : {A : Type 0} → List (String A) → List (List ℕ)
texts words = map string_bytes words

-- how many pages words ask for, if they are words that the program takes
abbrev pub pages_in : List (List ℕ) → Option ℕ
pages_in [] = Some 64
pages_in (option ∷ pages ∷ []) = if bytes_eq option (codes "--pages") then (if nat_le (length pages) 4 then number_in 0 4096 pages else None) else None
pages_in words = None

-- the lines of a script are answered from a shell on, and this is the text of the answers, and this the last shell
pub record Answers (first : Shell) (script text : List ℕ) (last : Shell) : Type 0 where
  pub answers : List (List ℕ)
  pub runs : Runs first (lines_of script) answers last
  pub text_is : text ≡ written answers

-- a text begins what the answers to the first lines of a script are
pub record AnswersPart (first : Shell) (script text : List ℕ) : Type 0 where
  pub lines : List (List ℕ)
  pub rest : List (List ℕ)
  pub first_lines : lines_of script ≡ lines ++ rest
  pub answers : List (List ℕ)
  pub last : Shell
  pub runs : Runs first lines answers last
  pub begins : (n : ℕ) × (text ≡ take n (written answers))

-- a script was answered to its end, in a shell of this many pages that opened
abbrev pub IsRun : ℕ → List ℕ → List ℕ → Shell → Type 0
IsRun pages script text last = (first : Shell) × IsShell first × Opens pages first × Answers first script text last

-- a part of a script was answered, in a shell of this many pages that opened
abbrev pub IsPart : ℕ → List ℕ → List ℕ → Type 0
IsPart pages script text = (first : Shell) × IsShell first × Opens pages first × AnswersPart first script text

-- every status there is
abbrev pub statuses : List ℕ
statuses = ANSWERED ∷ MISUSED ∷ READ_FAULT ∷ WRITE_FAULT ∷ NO_MEMORY ∷ TOO_LARGE ∷ []

-- what the line of a status says
abbrev pub status_text : ℕ → List ℕ
status_text status =
    if status == MISUSED then codes "usage: parsh [--pages N]"
    else (if status == READ_FAULT then codes "read fault"
    else (if status == WRITE_FAULT then codes "write fault"
    else (if status == NO_MEMORY then codes "out of memory"
    else codes "more than 1048576 bytes")))

-- the line of a status
abbrev pub line_of : ℕ → List ℕ
line_of status = codes "parsh: " ++ (status_text status ++ 10 ∷ [])

-- a sink was given a line, or a prefix of it if its faults rose
abbrev pub IsSaid : Option (List ℕ) → Option (List ℕ) → ℕ → ℕ → List ℕ → Type 0
IsSaid old new before now said = Appends old new said ⊎ (Rose before now × (n : ℕ) × Appends old new (take n said))
