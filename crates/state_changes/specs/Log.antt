-- What a log of the last cycles shows. This project's own.
use Rattle.std.specs.Prelude.{◌≡◌, ℕ, List, [], refl}
use Rattle.std.specs.Coded.{Coded, code_by, coded×, coded_list, coded_ℕ}

-- the most cycles that are kept; what was noted in each of them, and since then, the newest first; and for how many notes
-- more there is memory
pub record Log (X : Type 0) : Type 0 where
  pub most : ℕ
  pub cycles : List (List X)
  pub fresh : List X
  pub room : ℕ

abbrev pub has_nothing : {X : Type 0} → ℕ → Log X
has_nothing most = record { most = most; cycles = []; fresh = []; room = 0 }

-- what was noted stands; there may be more memory
pub record NotesStand {X : Type 0} (old new : Log X) : Type 0 where
  pub most : new.most ≡ old.most
  pub cycles : new.cycles ≡ old.cycles
  pub fresh : new.fresh ≡ old.fresh

-- a log is stored as the tuple of its fields
abbrev pub log_code : {X : Type 0} → Coded X → Coded (Log X)
log_code {X} c = code_by (ℕ × (List (List X) × (List X × ℕ)))
    (coded× coded_ℕ (coded× (coded_list (coded_list c)) (coded× (coded_list c) coded_ℕ)))
    (λ l. (l.most, (l.cycles, (l.fresh, l.room))))
    (λ p. record { most = p.0; cycles = p.1.0; fresh = p.1.1.0; room = p.1.1.1 }) (λ _. refl)
