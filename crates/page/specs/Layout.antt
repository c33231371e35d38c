-- The worked page of docs/LAYOUT.md, computed: what a table is encoded as, and that it reads back and is good. Assumes
-- nothing.
use Rattle.std.specs.Prelude.{◌≡◌, refl, true, false, ◌&&◌, List, [], ◌∷◌, ◌++◌, ℕ}
use Rattle.base.specs.Lists as Lists
use Rattle.base.specs.Lists.{same}
use Rattle.railway.specs.Relations as Relations
use Rattle.network.specs.Networks as Networks
use Rattle.timetable.specs.Cases as Cases
use Rattle.timetable.specs.Cases.{net}
use Rattle.timetable.specs.Visits as Visits
use Rattle.timetable.specs.Good as Good
use Rattle.timetable.specs.Tables.{Entry, Table}
use Rattle.records.specs.Bytes.{zeros}
use Rattle.records.specs.Records as Records
use Rattle.page.specs.Types.{InLink, OutLink, Connection}
use Rattle.page.specs.Pages as Pages
use Rattle.page.specs.Pages.{encode_page, decode_page, good_page}

-- train 7 on track 1, not marked, from 100, arrived, to 102, pending, with an out-link to station 2 by line 1 that
-- takes 12 minutes; a connection of 5 minutes of trains 7 and 300
pub visit : Entry
visit = record {
  train = record { 0 = 7 };
  visit = record {
    track = record { 0 = 1 };
    marked = false;
    arrival = record { 0 = 100 };
    arrived = true;
    departure = record { 0 = 102 };
    departed = false;
    inward = InLink.Nothing;
    outward = OutLink.To (record { station = record { 0 = 2 }; line = record { 0 = 1 }; run = 12 });
  };
}

pub table : Table
table = record {
  visits = visit ∷ [];
  relations = Connection 5 (record { a = record { 0 = 7 }; b = record { 0 = 300 }; c = record { 0 = 0 }; d = record { 0 = 0 } }) ∷ [];
}

-- the bytes that docs/LAYOUT.md shows
pub page : List ℕ
page =
    (0x01 ∷ 0x01 ∷ zeros 30)
    ++ ((0x07 ∷ 0x00 ∷ 0x01 ∷ 0x64 ∷ 0x00 ∷ 0x01 ∷ 0x66 ∷ 0x00 ∷ 0x00 ∷ 0x00 ∷ 0x00 ∷ 0x02 ∷ 0x01 ∷ 0x0c ∷ 0x00 ∷ 0x00 ∷ [])
    ++ (zeros 368
    ++ ((0x01 ∷ 0x05 ∷ 0x07 ∷ 0x00 ∷ 0x2c ∷ 0x01 ∷ 0x00 ∷ 0x00 ∷ 0x00 ∷ 0x00 ∷ 0x00 ∷ 0x00 ∷ 0x00 ∷ 0x00 ∷ 0x00 ∷ 0x00 ∷ [])
    ++ zeros 80)))

pub worked_page : (same (encode_page table) page && (same (encode_page (decode_page page)) page && good_page net (record { 0 = 1 }) page)) ≡ true
unfolding visit table page Cases.opened Lists.opened Relations.opened Networks.opened Visits.opened Good.opened Records.opened Pages.opened
worked_page = refl
