use Rattle.std.proofs.Common.{◌≡◌, ◌∙◌, ap, ℕ, ◌+◌, ◌-◌, ◌^◌, ◌<◌, false, List, [], ◌++◌, length, take, get_or, sym}
use Rattle.std.specs.Fmt.{digits, padded_integral, format_spec}
use Rattle.std.proofs.lemmas.List.{take_more, flat_map_more}
use Rattle.std.proofs.lemmas.Fmt.{hex_byte}
use Rattle.run_writing.specs.Hex.{pair, hex_of}

-- what is shown of one byte more
pub one_more : (xs : List ℕ) (i : ℕ) → i < length xs → get_or xs i 0 < 256
    → hex_of (take i xs) ++ padded_integral (format_spec 32 0 4 2 (2 ^ 64 - 1)) false [] (digits 16 false (get_or xs i 0)) ≡ hex_of (take (i + 1) xs)
one_more xs i h small =
    ap (λ (t : List ℕ). hex_of (take i xs) ++ t) (hex_byte false (get_or xs i 0) small)
    ∙ flat_map_more pair [] (take i xs) (get_or xs i 0)
    ∙ ap hex_of (sym (take_more xs i 0 h))
