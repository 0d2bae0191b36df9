use Rattle.std.proofs.Common.{◌≡◌, ◌≤◌, ◌++◌, ℕ, List, arith, drop, length, length-take-le, min, refl, take, take-append-drop}
use Rattle.std.proofs.lemmas.List.{drop-drop, take-append-le, take-take, take_rest}
use Rattle.good_groups.proofs.bytes.Bytes.give.Goals as goal

-- the front of what was left is at the front of the buffer, and the rest is left
moved : (left part rest : List ℕ) (n : ℕ) → n ≤ length left → part ≡ take n left → left ≡ take n (part ++ rest) ++ drop n left
moved left part rest n fits is =
    let long : length (take n left) ≡ n = length-take-le n left fits in
    let all : n ≤ length (take n left) = omega arith in
    rw (is, take-append-le n (take n left) rest all, take-take n n left (omega arith), take-append-drop n left) refl

pub returns-clause-bytes : goal.returns-clause-bytes
returns-clause-bytes c =
    let all = c.self.inside.bytes.items in
    let left = drop c.self.inside.at all in
    let n = c.min-count.result in
    let count : n ≡ min (length left) (length c.args.buf.now) = rw (c.as_slice.ensures.value, take_rest all c.self.inside.at) at c.min-count.ensures in
    let part : c.copy_from_slice.new.self ≡ take n left = rw (c.as_slice.ensures.value, take_rest all c.self.inside.at) at c.copy_from_slice.ensures.after in
    let told : left ≡ c.args.self.now = rw (← c.self.view_is) refl in
    rw (← drop-drop n c.self.inside.at all, ← told) (moved left c.copy_from_slice.new.self (drop n c.args.buf.now) n (omega (arith, count)) part)
