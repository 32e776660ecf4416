-- A configuration is the same when it is read in parts.
use Rattle.std.proofs.Common.{◌≡◌, ℕ, Bool, false, List, [], Option, None, Result, Ok, Err, codes, refl}
use Rattle.serde_json.specs.Data.{Data}
use Rattle.serde_json.specs.Find.{get}
use Rattle.farm_history.specs.declared.queues.Limits.{Limits}
use Rattle.reading.specs.Steps.{◌>>=◌}
use Rattle.reading.specs.Values.{needed, or_value, opened}
use Rattle.farm_config.specs.Configs.{Config, greatest_limits}
use Rattle.farm_config.specs.Limits.{most_workers}
use Rattle.farm_config.specs.Kinds.{number_within, an_address}
use Rattle.farm_config.specs.Tables.{config_of, maps_of, files_of, limits_of, restyles_of}
use Rattle.farm_config.specs.declared.config.RestyleEntry.{RestyleEntry}
use Rattle.farm_config.specs.inner.Keys.{config_keys}
use Rattle.farm_config.specs.inner.Kinds.{a_file, a_truth}
use Rattle.farm_config.specs.declared.fault.ConfigFault.TheVariants.{Shape}
use Rattle.farm_config.specs.declared.reading_config.Service.{Service}
use Rattle.farm_config.specs.inner.Parts.{service_of, start_of, config_by_parts}

abbrev service : ℕ → Limits → Option (List ℕ) → Option (List ℕ) → Option (List ℕ) → Service
service w l x y z = record { workers = w; limits = l; renderd = x; tiles = y; control = z }

abbrev started : List RestyleEntry → Bool → List RestyleEntry × Bool
started p q = (p, q)

grouped : {E : Type 0} (a : Result ℕ E) (b : Result Limits E) (c d f : Result (Option (List ℕ)) E) (g : Result (List RestyleEntry) E) (h : Result Bool E)
    (K : Service → List RestyleEntry × Bool → Config) →
    (a >>= λ w. b >>= λ l. c >>= λ x. d >>= λ y. f >>= λ z. g >>= λ p. h >>= λ q. Ok (K (service w l x y z) (started p q)))
    ≡ ((a >>= λ w. b >>= λ l. c >>= λ x. d >>= λ y. f >>= λ z. Ok (service w l x y z)) >>= λ s. (g >>= λ p. h >>= λ q. Ok (started p q)) >>= λ e. Ok (K s e))
grouped (Err e) b c d f g h K = refl
grouped (Ok w) (Err e) c d f g h K = refl
grouped (Ok w) (Ok l) (Err e) d f g h K = refl
grouped (Ok w) (Ok l) (Ok x) (Err e) f g h K = refl
grouped (Ok w) (Ok l) (Ok x) (Ok y) (Err e) g h K = refl
grouped (Ok w) (Ok l) (Ok x) (Ok y) (Ok z) (Err e) h K = refl
grouped (Ok w) (Ok l) (Ok x) (Ok y) (Ok z) (Ok p) (Err e) K = refl
grouped (Ok w) (Ok l) (Ok x) (Ok y) (Ok z) (Ok p) (Ok q) K = refl

pub in_parts : (d : Data) → config_of d ≡ config_by_parts d
unfolding config_of config_by_parts service_of start_of
in_parts d = λ i.
    opened (Shape 0) (Shape 0) config_keys d >>= λ u. needed (Shape 1) maps_of (get (codes "maps") d) >>= λ maps. needed (Shape 2) (a_file 2) (get (codes "data") d) >>= λ dataset.
    or_value [] (files_of 3) (get (codes "updates") d) >>= λ updates. or_value [] (files_of 4) (get (codes "expiries") d) >>= λ expiries.
    grouped (or_value 2 (number_within 5 1 most_workers) (get (codes "workers") d)) (or_value greatest_limits limits_of (get (codes "limits") d))
    (or_value None (an_address 7) (get (codes "renderd") d)) (or_value None (an_address 8) (get (codes "tiles") d)) (or_value None (an_address 9) (get (codes "control") d))
    (or_value [] (restyles_of maps) (get (codes "restyles") d)) (or_value false (a_truth 11) (get (codes "resume") d))
    (λ s e. record { maps = maps; dataset = dataset; updates = updates; expiries = expiries; workers = s.workers; limits = s.limits; renderd = s.renderd; tiles = s.tiles; control = s.control; restyles = e.0; resume = e.1 }) i
