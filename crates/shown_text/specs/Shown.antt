-- Bytes as a line shows them on a terminal.
use Rattle.std.specs.Prelude.{[], ◌==◌, ◌&&◌, ◌||◌, ◌-◌, ◌/◌, ◌%◌, ◌∷◌, ◌++◌, ℕ, Bool, zero, suc, List, Option, None, Some, codes, if◌then◌else◌, length, min, nat_le, nat_lt, slice_index, take, unwrap_or}
use Rattle.std.specs.Char.{digit_char}
use Rattle.std.specs.Option.{option_map_or}
use Rattle.std.specs.Str.{is_utf8}
use Rattle.shown_text.specs.declared.escaped.TheConstants.{MOST_SHOWN}

-- the first few of some bytes are UTF-8
abbrev pub is_text_front : ℕ → List ℕ → Bool
is_text_front size bytes = nat_le size (length bytes) && is_utf8 (take size bytes)

-- a control character past ASCII, U+0080 to U+009F, as UTF-8 writes it, the space that breaks no line, U+00A0, and the hyphen that is shown only at
-- the end of a line, U+00AD
abbrev pub is_control : List ℕ → Bool
is_control bytes = (slice_index bytes 0 == 0xc2) && (nat_le (slice_index bytes 1) 0xa0 || (slice_index bytes 1 == 0xad))

-- a character that can't be seen, or changes the order in which a line is read, or begins another line: U+200B to U+200F, U+2028 to U+202E and
-- U+2060 to U+2069
abbrev pub is_mark : List ℕ → Bool
is_mark bytes = (slice_index bytes 0 == 0xe2) && (((slice_index bytes 1 == 0x80) && ((nat_le 0x8b (slice_index bytes 2) && nat_le (slice_index bytes 2) 0x8f) || (nat_le 0xa8 (slice_index bytes 2) && nat_le (slice_index bytes 2) 0xae)))
    || ((slice_index bytes 1 == 0x81) && (nat_le 0xa0 (slice_index bytes 2) && nat_le (slice_index bytes 2) 0xa9)))

-- the mark of an order of bytes, U+FEFF, which can't be seen
abbrev pub is_order_mark : List ℕ → Bool
is_order_mark bytes = (slice_index bytes 0 == 0xef) && ((slice_index bytes 1 == 0xbb) && (slice_index bytes 2 == 0xbf))

-- how many bytes of the front are a character past ASCII that is shown as it is
abbrev pub plain_size : List ℕ → Option ℕ
plain_size bytes =
    if nat_lt (slice_index bytes 0) 128 || (is_control bytes || (is_mark bytes || is_order_mark bytes)) then None
    else (if is_text_front 2 bytes then Some 2 else (if is_text_front 3 bytes then Some 3 else (if is_text_front 4 bytes then Some 4 else None)))

-- a byte that is shown by itself: ASCII that prints as it is, quotes and backslashes after a backslash, any other in hexadecimal
abbrev pub byte_text : ℕ → List ℕ
byte_text byte =
    if byte == 34 then codes "\\\""
    else (if byte == 92 then codes "\\\\"
    else (if nat_le 32 byte && nat_le byte 126 then byte ∷ []
    else codes "\\x" ++ (digit_char (byte / 16) ∷ digit_char (byte % 16) ∷ [])))

-- what is shown of the front of bytes, a character or a byte
abbrev pub front_text : List ℕ → List ℕ
front_text bytes = option_map_or (λ size. take size bytes) (plain_size bytes) (byte_text (slice_index bytes 0))

-- how many bytes of the front that is
abbrev pub step : List ℕ → ℕ
step bytes = unwrap_or (plain_size bytes) 1

-- what is shown of bytes after the next few
abbrev pub shown_after : ℕ → List ℕ → List ℕ
shown_after skip [] = []
shown_after zero (byte ∷ bytes) = front_text (byte ∷ bytes) ++ shown_after (step (byte ∷ bytes) - 1) bytes
shown_after (suc skip) (byte ∷ bytes) = shown_after skip bytes

-- what comes after the bytes of a field that are shown: the quote, and two points if it has more
abbrev pub end_text : List ℕ → List ℕ
end_text field = if nat_lt MOST_SHOWN (length field) then codes "\".." else codes "\""

-- the first bytes of a field, in quotes
abbrev pub shown_text : List ℕ → List ℕ
shown_text field = codes "\"" ++ (shown_after 0 (take (min (length field) MOST_SHOWN) field) ++ end_text field)
