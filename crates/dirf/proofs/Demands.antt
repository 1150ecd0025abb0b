-- The demands, for every sound edition, and so for both.
use Rattle.dirf.specs.Edition.{Edition, edition2025, edition2022}
use Rattle.dirf.specs.Editions.{EditionName, edition_named}
use Rattle.dirf.specs.Theorems.Sound.{Sound}
use Rattle.dirf.specs.Theorems.Demands.{Demands}
use Rattle.dirf.specs.Theorems.Totals.{Totals}
use Rattle.dirf.proofs.rules.Columns.{columns_hold, writer_columns_hold}
use Rattle.dirf.proofs.breaches.TestsSay.{tests_say}
use Rattle.dirf.proofs.files.Answered.{answered, only, accepted_exactly}
use Rattle.dirf.proofs.tables.Editions.{sound2025, sound2022, sound_named, amounts_named}
use Rattle.dirf.proofs.files.GoodSoFar.{good_so_far}
use Rattle.dirf.proofs.tree.Whose.{whose}
use Rattle.dirf.proofs.tree.Groups.{grouped}
use Rattle.dirf.proofs.files.Counts.{counts}
use Rattle.dirf.proofs.files.Entries.{entries}
use Rattle.dirf.proofs.found.Accepted.{finds_all}
use Rattle.dirf.proofs.totals.Totals.{totals}
use Rattle.dirf.proofs.back.WriterBack.{writer_reads_back, reader_writes_back}

pub demands : (e : Edition) → Sound e → Demands e
demands e sound =
    record {
      answered = answered e sound;
      only = only e sound;
      accepted_exactly = accepted_exactly e sound;
      tests_say = tests_say e sound;
      columns_hold = columns_hold;
      counts = counts e sound;
      writer_reads_back = writer_reads_back e sound (tests_say e sound);
      reader_writes_back = reader_writes_back e sound (tests_say e sound);
      writer_columns_hold = writer_columns_hold;
      good_so_far = good_so_far e sound;
      whose = whose e sound;
      groups = λ file room. grouped (whose e sound file room);
      entries = entries e sound;
      finds = finds_all e sound;
    }

pub demands2025 : Demands edition2025
demands2025 = demands edition2025 sound2025

pub demands2022 : Demands edition2022
demands2022 = demands edition2022 sound2022

pub demands_named : (n : EditionName) → Demands (edition_named n)
demands_named n = demands (edition_named n) (sound_named n)

pub totals_named : (n : EditionName) → Totals (edition_named n)
totals_named n = totals (edition_named n) (sound_named n) (amounts_named n)
