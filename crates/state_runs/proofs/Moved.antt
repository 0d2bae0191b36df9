-- In which order the groups of a file are given does not matter.
use Rattle.std.proofs.Common.{List, map}
use Rattle.std.proofs.lemmas.List.Sorted.{All-permutation, IsPermutation-map, IsPermutation-trans}
use Rattle.std.specs.List.Sorted.{IsPermutation}
use Rattle.partial_agg.specs.declared.groups.Group.{Group as MapGroup}
use Rattle.state_blocks.specs.Blocks.{Group}
use Rattle.state_head.specs.Head.{Preface}
use Rattle.state_save.specs.Saving.{AreTuplesOf, IsFileOf, IsTold, tuple_of}
use Rattle.state_whole.specs.Files.{StateFile, tuples_in}
use Rattle.state_whole.specs.declared.adding.Shape.{Shape}

pub tuples_moved : (shape : Shape) (groups others : List MapGroup) (tuples : List Group) → IsPermutation others groups → AreTuplesOf shape groups tuples → AreTuplesOf shape others tuples
tuples_moved shape groups others tuples same are = record {
  same = IsPermutation-trans (map (tuple_of shape) others) (map (tuple_of shape) groups) tuples (IsPermutation-map (tuple_of shape) others groups same) are.same;
  rise = are.rise;
}

pub file_moved : (shape : Shape) (preface : Preface) (groups others : List MapGroup) (f : StateFile) → IsPermutation others groups → IsFileOf shape preface groups f → IsFileOf shape preface others f
file_moved shape preface groups others f same is = record {
  preface_is = is.preface_is;
  are = tuples_moved shape groups others (tuples_in f) same is.are;
  is_body = λ told. is.is_body (All-permutation (IsTold shape) others groups same told);
}
