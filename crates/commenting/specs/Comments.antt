-- Where the comment of a line begins. Assumes nothing.
use Rattle.std.specs.Prelude.{ℕ, suc, Bool, cond, ◌&&◌, List, [], ◌∷◌, eqb}

-- whether a comment begins with byte b after byte p: a # right after a space
abbrev pub comments : ℕ → ℕ → Bool
comments p b = eqb b 35 && eqb p 32

-- how many bytes of a line, after byte p, come before the comment in it
unfoldable pub uncommented : ℕ → List ℕ → ℕ
uncommented p [] = 0
uncommented p (b ∷ bs) = cond (comments p b) 0 (suc (uncommented b bs))
