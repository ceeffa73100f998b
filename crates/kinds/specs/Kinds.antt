-- Which of the two an input is, a text or a record. Assumes nothing.
--
-- A record with a paid increment from 0 to 1,048,575 is never taken for a text: of the field's 35 bits the first 15 are zero, and eight of those are a whole
-- byte of the record. A record of larger amounts only could in principle be of such bytes, with k from 2 to 7 and at least 524,288 still to be
-- paid, since of a smaller amount the first 15 bits are zero too; of the bytes of a real one half have their first bit set, and the shortest has 70.
use Rattle.std.specs.Prelude.{ℕ, Bool, cond, ◌&&◌, ◌||◌, List, eqb, ltb, leb, length, get_or, drop}
use Rattle.rules.specs.Lists.{every, between}

-- a byte of a text: a tab, a line feed, a carriage return, or printable ASCII
abbrev pub text_byte : ℕ → Bool
text_byte b = eqb b 9 || (eqb b 10 || (eqb b 13 || between 32 126 b))

-- whether an input starts with the mark that some programs put before a text
unfoldable pub marked : List ℕ → Bool
marked s = leb 3 (length s) && (eqb (get_or s 0 0) 239 && (eqb (get_or s 1 0) 187 && eqb (get_or s 2 0) 191))

-- a text: an input of at least one byte, whose bytes after the mark are those of texts
unfoldable pub is_text : List ℕ → Bool
is_text s = ltb 0 (length s) && every text_byte (drop (cond (marked s) 3 0) s)
