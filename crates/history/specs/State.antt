-- A state, and what a slice makes of it. Assumes nothing.
use Rattle.std.specs.Prelude.{cond, List, [], ◌∷◌}
use Rattle.numbers.specs.Numbers.{is_none}
use Rattle.numbers.specs.declared.Instant.{Instant}
use Rattle.slice.specs.Record.{Property, unmentioned, says, Slice}
use Rattle.slice.specs.declared.record.Life.{Life}

pub record State : Type 0 where
  pub life : Life
  pub properties : List Property

-- the state that an anchor gives
abbrev pub started : Slice → State
started a = record { life = a.life; properties = a.properties }

-- a property that is mentioned replaces; nil is a mention
abbrev pub newer : Property → Property → Property
newer unmentioned old = old
newer (says p) old = says p

abbrev pub over : List Property → List Property → List Property
over [] olds = olds
over (n ∷ news) [] = n ∷ news
over (n ∷ news) (o ∷ olds) = newer n o ∷ over news olds

-- a life time that is given replaces
unfoldable pub new_time : Instant → Instant → Instant
new_time new old = cond (is_none new) old new

-- a slice replaces what it mentions, and a life time it gives
unfoldable pub applied : State → Slice → State
applied s d = record {
  life = record { begin = new_time d.life.begin s.life.begin; end = new_time d.life.end s.life.end };
  properties = over d.properties s.properties;
}

-- slices, each in its turn
abbrev pub applied_all : State → List Slice → State
applied_all s [] = s
applied_all s (d ∷ ds) = applied_all (applied s d) ds
