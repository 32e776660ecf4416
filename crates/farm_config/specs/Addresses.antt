-- The addresses at which a farm listens.
use Rattle.std.specs.Prelude.{ℕ, Bool, false, ◌&&◌, nat_le, if◌then◌else◌, List, length, codes, Option, Some, None, option_and_then, is_some}
use Rattle.std.specs.Str.{bytes_eq}
use Rattle.farm_base.specs.Cuts.{cut_at}
use Rattle.farm_base.specs.Numbers.{decimal_below}
use Rattle.farm_config.specs.Limits.{most_path_bytes}

-- what stands behind an octet, a number below 256, and this byte
abbrev pub after_octet : ℕ → List ℕ → Option (List ℕ)
after_octet byte text = option_and_then
    (λ p. if is_some (decimal_below 256 p.0) then Some p.1 else None) (cut_at byte text)

-- the port behind four octets, `a.b.c.d:port`, a number below 65536
unfoldable pub port_of : List ℕ → Option ℕ
port_of text =
    option_and_then (λ b. option_and_then
    (λ c. option_and_then (λ d. option_and_then (λ port. decimal_below 65536 port)
    (after_octet 58 d)) (after_octet 46 c)) (after_octet 46 b)) (after_octet 46 text)

-- whether an address of this kind has this rest: `tcp:` and four octets with a port, or `unix:` and
-- a path of 1 to 100 bytes
abbrev pub is_address_of : List ℕ → List ℕ → Bool
is_address_of kind rest =
    if bytes_eq kind (codes "tcp") then is_some (port_of rest) else
    if bytes_eq kind (codes "unix")
    then nat_le 1 (length rest) && nat_le (length rest) most_path_bytes else false

-- whether the text is an address
unfoldable pub is_address : List ℕ → Bool
is_address text = is_some
    (option_and_then (λ p. if is_address_of p.0 p.1 then Some p.1 else None) (cut_at 58 text))
