-- Times (15) and content (16), as document 01 gives them, on the fields of a slice. Assumes nothing.
use Rattle.std.specs.Prelude.{ℕ, Bool, cond, ◌&&◌, ◌||◌, eqb}
use Rattle.laws.specs.Lists.{all, any}
use Rattle.numbers.specs.Numbers.{is_none, given, before, at_most, same_instant}
use Rattle.slice.specs.declared.record.Period.{Period}
use Rattle.slice.specs.declared.record.Life.{Life}
use Rattle.slice.specs.Record.{baseline, permdelta, Slice, is_mentioned}

-- end none or after begin
abbrev pub end_right : Period → Bool
end_right p = is_none p.end || before p.begin p.end

-- life begin none or at most begin; life end none or after begin; end at most life end where both are given
unfoldable pub baseline_times : Period → Life → Bool
baseline_times p l =
    end_right p
    && ((is_none l.begin || at_most l.begin p.begin)
    && ((is_none l.end || before p.begin l.end)
    && (is_none p.end || (is_none l.end || at_most p.end l.end))))

-- end none; life begin and life end each none or equal to the instant, not both given
unfoldable pub permdelta_times : Period → Life → Bool
permdelta_times p l =
    is_none p.end
    && ((is_none l.begin || same_instant l.begin p.begin)
    && ((is_none l.end || same_instant l.end p.begin)
    && (is_none l.begin || is_none l.end)))

-- end none or after begin; no life
unfoldable pub tempdelta_times : Period → Life → Bool
tempdelta_times p l = end_right p && (is_none l.begin && is_none l.end)

-- all: begin given; then by kind
unfoldable pub times_of : ℕ → Period → Life → Bool
times_of kind p l =
    given p.begin
    && cond (eqb kind baseline) (baseline_times p l)
    (cond (eqb kind permdelta) (permdelta_times p l) (tempdelta_times p l))

unfoldable pub times_right : Slice → Bool
times_right s = times_of s.kind s.period s.life

-- a BASELINE mentions every property; a TEMPDELTA mentions one or more; a PERMDELTA mentions one or more, or gives a life time
unfoldable pub content_of : ℕ → Life → Bool → Bool → Bool
content_of kind l every some =
    cond (eqb kind baseline) every
    (cond (eqb kind permdelta) (some || (given l.begin || given l.end)) some)

unfoldable pub content_right : Slice → Bool
content_right s = content_of s.kind s.life (all is_mentioned s.properties) (any is_mentioned s.properties)
