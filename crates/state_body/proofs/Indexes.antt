-- What is known of the blocks so far, and of one block more.
use Rattle.std.proofs.Common.{◌≡◌, ◌+◌, ◌++◌, ◌∙◌, ℕ, Bool, List, [], ◌∷◌, ap, append_assoc, append-nil, arith, length, length-append, refl, sym}
use Rattle.std.proofs.lemmas.Grind.{flat_map-append}
use Rattle.std.specs.Int.{to_le_bytes, w32}
use Rattle.std.specs.List.{flat_map}
use Rattle.state_blocks.specs.Blocks.{Group, block_bytes, block_section, blocks_bytes, first_key}
use Rattle.state_body.specs.Body.{IsIndex, groups_of, places_bytes}
use Rattle.state_body.specs.declared.index.Index.{Index}
use Rattle.state_file.specs.Checksum.{crc32c}
use Rattle.state_file.specs.Number.{number_bytes}
use Rattle.state_file.specs.Section.{section}
use Rattle.state_file.specs.Text.{text_bytes}

long_of : (size part sum : List ℕ) → length size ≡ 4 → length sum ≡ 4 → length (size ++ (part ++ sum)) ≡ length part + 8
long_of size part sum four more = omega (arith, four, more, length-append size (part ++ sum), length-append part sum)

pub section_long : (part : List ℕ) → length (section part) ≡ length part + 8
unfolding section
section_long part = long_of (to_le_bytes w32 (length part)) part (to_le_bytes w32 (crc32c part)) refl refl

pub blocks-push : (kinds : List Bool) (blocks : List (List Group)) (block : List Group) → blocks_bytes kinds (blocks ++ block ∷ []) ≡ blocks_bytes kinds blocks ++ block_section kinds block
unfolding blocks_bytes
blocks-push kinds blocks block =
    flat_map-append (block_section kinds) blocks (block ∷ []) ∙ ap (λ (bs : List ℕ). flat_map (block_section kinds) blocks ++ bs) (append-nil (block_section kinds block))

blocks_long : (kinds : List Bool) (blocks : List (List Group)) (block : List Group) → length (blocks_bytes kinds (blocks ++ block ∷ [])) ≡ length (blocks_bytes kinds blocks) + (length (block_bytes kinds block) + 8)
blocks_long kinds blocks block =
    let long = section_long (block_bytes kinds block) in
    omega (arith, long, ap length (blocks-push kinds blocks block), length-append (blocks_bytes kinds blocks) (block_section kinds block))

places-push : (kinds : List Bool) (start : ℕ) (blocks : List (List Group)) (block : List Group)
    → places_bytes kinds start (blocks ++ block ∷ []) ≡ places_bytes kinds start blocks ++ (number_bytes (start + length (blocks_bytes kinds blocks)) ++ text_bytes (first_key block))
unfolding blocks_bytes
places-push kinds start [] block =
    let here : start ≡ start + 0 = omega arith in
    append-nil (number_bytes start ++ text_bytes (first_key block)) ∙ ap (λ (n : ℕ). number_bytes n ++ text_bytes (first_key block)) here
places-push kinds start (b ∷ blocks) block =
    let one = block_section kinds b in
    let later = flat_map (block_section kinds) blocks in
    let entry = number_bytes start ++ text_bytes (first_key b) in
    let long = length-append one later in
    let here : start + length one + length later ≡ start + length (one ++ later) = omega (arith, long) in
    ap (λ (bs : List ℕ). entry ++ bs) (places-push kinds (start + length one) blocks block)
    ∙ sym (append_assoc entry (places_bytes kinds (start + length one) blocks) (number_bytes (start + length one + length later) ++ text_bytes (first_key block)))
    ∙ ap (λ (n : ℕ). (entry ++ places_bytes kinds (start + length one) blocks) ++ (number_bytes n ++ text_bytes (first_key block))) here

groups-push : (blocks : List (List Group)) (block : List Group) → length (groups_of (blocks ++ block ∷ [])) ≡ length (groups_of blocks) + length block
groups-push blocks block =
    let joined = flat_map-append {X = List Group} {A = Group} (λ b. b) blocks (block ∷ []) in
    let last = append-nil block in
    omega (arith, ap length joined, length-append (groups_of blocks) (block ++ []), ap length last)

plus_none : (n : ℕ) → n ≡ n + 0
plus_none n = omega arith

pub index_none : (kinds : List Bool) (start : ℕ) (index : Index) → index.places.items ≡ [] → index.at ≡ start → index.blocks ≡ 0 → index.groups ≡ 0 → IsIndex kinds start [] index
unfolding blocks_bytes
index_none kinds start index places at blocks groups = record { places = places; at = at ∙ plus_none start; blocks_many = blocks; groups_many = groups }

pub index_more : (kinds : List Bool) (start : ℕ) (blocks : List (List Group)) (block : List Group) (i j : Index) (first : List ℕ) (groups bytes : ℕ) → IsIndex kinds start blocks i → first ≡ first_key block → groups ≡ length block
    → bytes ≡ length (block_bytes kinds block) → j.places.items ≡ (i.places.items ++ number_bytes i.at) ++ text_bytes first → j.at ≡ i.at + bytes + 8 → j.blocks ≡ i.blocks + 1 → j.groups ≡ i.groups + groups
    → IsIndex kinds start (blocks ++ block ∷ []) j
index_more kinds start blocks block i j first groups bytes is key many long places at more all =
    let at_was = is.at in
    let blocks_were = is.blocks_many in
    let groups_were = is.groups_many in
    let size = blocks_long kinds blocks block in
    record {
      places = places ∙ append_assoc i.places.items (number_bytes i.at) (text_bytes first) ∙ ap (λ (bs : List ℕ). bs ++ (number_bytes i.at ++ text_bytes first)) is.places
          ∙ ap (λ (n : ℕ). places_bytes kinds start blocks ++ (number_bytes n ++ text_bytes first)) is.at ∙ ap (λ (k : List ℕ). places_bytes kinds start blocks ++ (number_bytes (start + length (blocks_bytes kinds blocks)) ++ text_bytes k)) key
          ∙ sym (places-push kinds start blocks block);
      at = omega (arith, at, at_was, long, size);
      blocks_many = omega (arith, more, blocks_were, length-append blocks (block ∷ []));
      groups_many = omega (arith, all, groups_were, many, groups-push blocks block);
    }
