-- Bytes are those of files of partial states in one way.
use Rattle.std.specs.Prelude.{◌≡◌, ◌++◌, ℕ, Bool, List, All}
use Rattle.std.specs.List.{flat_map}
use Rattle.state_front.specs.Front.{IsFront, front_bytes}
use Rattle.state_head.specs.Head.{Preface}
use Rattle.state_whole.specs.Files.{IsStateFile, StateFile, file_bytes}

-- bytes begin with one front
abbrev pub FrontIsOnce : Type 0
FrontIsOnce = (p q : Preface) (x y : List ℕ) → IsFront p → IsFront q → front_bytes p ++ x ≡ front_bytes q ++ y → (p ≡ q) × (x ≡ y)

-- they begin with one file
abbrev pub FileIsOnce : Type 0
FileIsOnce = (columns : ℕ) (kinds : List Bool) (f g : StateFile) (x y : List ℕ) → IsStateFile columns kinds f → IsStateFile columns kinds g → file_bytes kinds f ++ x ≡ file_bytes kinds g ++ y → (f ≡ g) × (x ≡ y)

-- they are one list of files
abbrev pub FilesAreOnce : Type 0
FilesAreOnce = (columns : ℕ) (kinds : List Bool) (files others : List StateFile) → All (IsStateFile columns kinds) files → All (IsStateFile columns kinds) others
    → flat_map (file_bytes kinds) files ≡ flat_map (file_bytes kinds) others → files ≡ others
