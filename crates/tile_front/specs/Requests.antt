-- What the bytes of a connection ask for.
use Rattle.std.specs.Prelude.{◌≡◌, ◌≢◌, ℕ, List, codes}
use Rattle.httparse.specs.Grammar.{RequestHead}
use Rattle.tile_front.specs.declared.targets.Kind.{Kind}
use Rattle.tile_front.specs.declared.requests.Request.{Request}
use Rattle.tile_front.specs.declared.requests.Request.TheVariants.{Open, Bad, NotGet, NoTarget, Get}
use Rattle.tile_front.specs.Targets.{Place, Names, NamesNone, place_of}
use Rattle.tile_front.specs.Heads.{IsWhole, IsOpen, IsBad}

-- a whole head, whose method is not `GET`
abbrev pub IsNotGet : List ℕ → Type 0
IsNotGet bytes = (h : RequestHead) × IsWhole bytes h × (h.method ≢ codes "GET")

-- one that gets a target of no tile
abbrev pub GetsNone : List ℕ → Type 0
GetsNone bytes = (h : RequestHead) × IsWhole bytes h × (h.method ≡ codes "GET") × NamesNone h.target

-- one that gets this of that tile
abbrev pub GetsTile : List ℕ → Kind → Place → Type 0
GetsTile bytes k p =
    (h : RequestHead) × IsWhole bytes h × (h.method ≡ codes "GET") × Names h.target k p

-- what the bytes ask for
abbrev pub Reads : List ℕ → Request → Type 0
Reads bytes Open = IsOpen bytes
Reads bytes Bad = IsBad bytes
Reads bytes NotGet = IsNotGet bytes
Reads bytes NoTarget = GetsNone bytes
Reads bytes (Get t) = GetsTile bytes t.kind (place_of t)
