-- Where each number of a store stands among its words: a head of 9, 64 readers of 5, 16 publishers of 6; for each publisher a retirement of 2 and room for 8 retired slots of 2. docs/LAYOUT.md has the table.
use Rattle.std.specs.Prelude.{ℕ, zero, suc, ◌+◌, ◌*◌, Bool, List, [], ◌∷◌, ℤ, pos, get_or, set, replicate, leb, ltb}
use Rattle.base.specs.Base.{choose}
use Rattle.layout.specs.declared.Reader.{Reader}
use Rattle.layout.specs.declared.Publisher.{Publisher}
use Rattle.layout.specs.declared.WalkRecord.{WalkRecord}
use Rattle.layout.specs.declared.Retirement.{Retirement}
use Rattle.layout.specs.declared.Retired.{Retired}
use Rattle.calls.specs.Numbers.{readers_max, publishers_max, table_length, deferred_max}
use Rattle.layout.specs.Records.{◌published≔◌}

-- The head.
abbrev pub kind_at : ℕ
kind_at = 0

abbrev pub readers_at : ℕ
readers_at = 1

abbrev pub publishers_at : ℕ
publishers_at = 2

abbrev pub slots_at : ℕ
slots_at = 3

abbrev pub current_at : ℕ
current_at = 4

abbrev pub version_at : ℕ
version_at = 5

abbrev pub releases_at : ℕ
releases_at = 6

abbrev pub indicators_at : ℕ
indicators_at = 7

-- How many indicators there are.
abbrev pub indicator_count : ℕ
indicator_count = 2

abbrev pub head_word_count : ℕ
head_word_count = indicators_at + indicator_count

-- Whether word i of the head is an indicator: these are its last words.
abbrev pub is_indicator_at : ℕ → Bool
is_indicator_at i = leb indicators_at i

-- The records.
abbrev pub reader_word_count : ℕ
reader_word_count = 5

abbrev pub publisher_word_count : ℕ
publisher_word_count = 6

abbrev pub first_publisher : ℕ
first_publisher = head_word_count + reader_word_count * readers_max

-- Behind the publishers: for each its checkpoint's step and how many slots it has retired, then for each room for eight retired slots.
abbrev pub retirement_word_count : ℕ
retirement_word_count = 2

abbrev pub first_retirement : ℕ
first_retirement = first_publisher + publisher_word_count * publishers_max

abbrev pub retired_word_count : ℕ
retired_word_count = 2

abbrev pub first_retired : ℕ
first_retired = first_retirement + retirement_word_count * publishers_max

-- The length of a store's words.
abbrev pub words_length : ℕ
words_length = first_retired + retired_word_count * deferred_max * publishers_max

abbrev pub kind_word : List ℕ → ℕ
kind_word w = get_or w kind_at 0

abbrev pub readers : List ℕ → ℕ
readers w = get_or w readers_at 0

abbrev pub publishers : List ℕ → ℕ
publishers w = get_or w publishers_at 0

abbrev pub slots : List ℕ → ℕ
slots w = get_or w slots_at 0

abbrev pub current : List ℕ → ℕ
current w = get_or w current_at 0

abbrev pub version : List ℕ → ℕ
version w = get_or w version_at 0

abbrev pub releases : List ℕ → ℕ
releases w = get_or w releases_at 0

-- Indicator i; a number beyond the two has none, and reads as 0.
unfoldable pub indicator : List ℕ → ℕ → ℕ
indicator w i = choose (ltb i indicator_count) (get_or w (indicators_at + i) 0) 0

abbrev pub with_current : List ℕ → ℕ → List ℕ
with_current w n = set w current_at n

abbrev pub with_version : List ℕ → ℕ → List ℕ
with_version w n = set w version_at n

abbrev pub with_releases : List ℕ → ℕ → List ℕ
with_releases w n = set w releases_at n

abbrev pub with_indicator : List ℕ → ℕ → ℕ → List ℕ
with_indicator w i n = set w (indicators_at + i) n

-- A record from its words, in their order, and the words of a record.
abbrev pub reader_of : (ℕ → ℕ) → Reader
reader_of f = record { place = f 0; first = f 1; second = f 2; published = f 3; picked = f 4 }

abbrev pub reader_words : Reader → List ℕ
reader_words x = x.place ∷ x.first ∷ x.second ∷ x.published ∷ x.picked ∷ []

abbrev pub publisher_of : (ℕ → ℕ) → Publisher
publisher_of f = record { place = f 0; held = f 1; walk = record { mark = f 2; next = f 3; looks = f 4; waits = f 5 } }

abbrev pub publisher_words : Publisher → List ℕ
publisher_words y = y.place ∷ y.held ∷ y.walk.mark ∷ y.walk.next ∷ y.walk.looks ∷ y.walk.waits ∷ []

abbrev pub retirement_of : (ℕ → ℕ) → Retirement
retirement_of f = record { step = f 0; count = f 1 }

abbrev pub retirement_words : Retirement → List ℕ
retirement_words t = t.step ∷ t.count ∷ []

abbrev pub retired_of : (ℕ → ℕ) → Retired
retired_of f = record { slot = f 0; mark = f 1 }

abbrev pub retired_words : Retired → List ℕ
retired_words d = d.slot ∷ d.mark ∷ []

abbrev pub no_retirement : Retirement
no_retirement = retirement_of (λ i. 0)

abbrev pub no_retired : Retired
no_retired = retired_of (λ i. 0)

abbrev pub no_reader : Reader
no_reader = reader_of (λ i. 0)

abbrev pub no_publisher : Publisher
no_publisher = publisher_of (λ i. 0)

abbrev pub no_walk : WalkRecord
no_walk = no_publisher.walk

-- A reader of which only the published version is not 0.
abbrev pub blank_reader : ℕ → Reader
blank_reader ver = no_reader published≔ ver

-- The words with a list of words put at start + i and on.
abbrev pub put_words : List ℕ → ℕ → ℕ → List ℕ → List ℕ
put_words w start i [] = w
put_words w start i (n ∷ ns) = put_words (set w (start + i) n) start (i + 1) ns

-- A region of records: where its first record stands, how many words each has, how many records there are, a record from its words, and its words.
pub record Region (A : Type 0) : Type 0 where
  pub start : ℕ
  pub stride : ℕ
  pub count : ℕ
  pub from : (ℕ → ℕ) → A
  pub words : A → List ℕ

-- Where record j begins, and where the region ends.
abbrev pub begins : {A : Type 0} → Region A → ℕ → ℕ
begins region j = region.start + region.stride * j

abbrev pub ends : {A : Type 0} → Region A → ℕ
ends region = begins region region.count

-- Record j of a region; a number beyond the records has none, and reads as 0. And the words with record j replaced.
abbrev pub record_at : {A : Type 0} → Region A → List ℕ → ℕ → A
record_at region w j = choose (ltb j region.count) (region.from (λ i. get_or w (begins region j + i) 0)) (region.from (λ i. 0))

abbrev pub with_record : {A : Type 0} → Region A → List ℕ → ℕ → A → List ℕ
with_record region w j value = put_words w (begins region j) 0 (region.words value)

-- The regions of readers and of publishers.
abbrev pub reader_region : Region Reader
reader_region = record { start = head_word_count; stride = reader_word_count; count = readers_max; from = reader_of; words = reader_words }

abbrev pub publisher_region : Region Publisher
publisher_region = record { start = first_publisher; stride = publisher_word_count; count = publishers_max; from = publisher_of; words = publisher_words }

-- The region of publishers' retirements, and that of the retired slots of publisher p.
abbrev pub retirement_region : Region Retirement
retirement_region = record { start = first_retirement; stride = retirement_word_count; count = publishers_max; from = retirement_of; words = retirement_words }

abbrev pub retired_region : ℕ → Region Retired
retired_region p = record { start = first_retired + retired_word_count * deferred_max * p; stride = retired_word_count; count = deferred_max; from = retired_of; words = retired_words }

-- The retirement of publisher p, and its retired slot i.
unfoldable pub retirement_at : List ℕ → ℕ → Retirement
retirement_at w p = record_at retirement_region w p

unfoldable pub retired_at : List ℕ → ℕ → ℕ → Retired
retired_at w p i = record_at (retired_region p) w i

-- Reader r and publisher p, and the words with one of them replaced.
unfoldable pub reader_at : List ℕ → ℕ → Reader
reader_at w r = record_at reader_region w r

unfoldable pub publisher_at : List ℕ → ℕ → Publisher
publisher_at w p = record_at publisher_region w p

unfoldable pub with_reader : List ℕ → ℕ → Reader → List ℕ
with_reader w r x = with_record reader_region w r x

unfoldable pub with_publisher : List ℕ → ℕ → Publisher → List ℕ
with_publisher w p y = with_record publisher_region w p y

unfoldable pub with_retirement : List ℕ → ℕ → Retirement → List ℕ
with_retirement w p t = with_record retirement_region w p t

unfoldable pub with_retired : List ℕ → ℕ → ℕ → Retired → List ℕ
with_retired w p i d = with_record (retired_region p) w i d

-- The words with each of the first n readers replaced.
unfoldable pub with_readers : ℕ → List ℕ → Reader → List ℕ
with_readers zero w x = w
with_readers (suc n) w x = with_reader (with_readers n w x) n x

-- Words that are all 0, but for a head and the readers.
unfoldable pub fresh_words : ℕ → ℕ → ℕ → ℕ → ℕ → Reader → List ℕ
fresh_words number rs ps ss ver x = set (set (set (set (set (with_readers readers_max (replicate words_length 0) x) kind_at number) readers_at rs) publishers_at ps) slots_at ss) version_at ver

-- Entry k of slot s is at s × 32 + k.
abbrev pub entry_at : ℕ → ℕ → ℕ
entry_at slot k = slot * table_length + k

-- Entry k of a slot, and 0 where there is none.
abbrev pub slot_entry : List ℤ → ℕ → ℕ → ℤ
slot_entry es slot k = choose (ltb k table_length) (get_or es (entry_at slot k) (pos 0)) (pos 0)
