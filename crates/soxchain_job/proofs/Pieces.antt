-- What is known after some pieces of the input, in a loop.
use Rattle.std.proofs.Common.{◌∙◌, ◌+◌, ◌-◌, ◌≤◌, ◌≡◌, ℕ, Ok, refl, arith}
use Rattle.soxchain_job.specs.Causes.{HasPieceCause}
use Rattle.soxchain_job.specs.Conversion.{ConversionModel}
use Rattle.soxchain_job.specs.Disk.{DiskModel}
use Rattle.soxchain_job.specs.Growth.{CanGrow, GrowsOnly, IsLiveAt}
use Rattle.soxchain_job.specs.Input.{InputModel, ReadsAtMost, ReadsBetween}
use Rattle.soxchain_job.specs.Job.{IsGrowing, Job}
use Rattle.soxchain_job.specs.Known.{BothKnown}
use Rattle.soxchain_job.specs.declared.fault.Fault.{Fault}
use Rattle.soxchain_job.specs.declared.grow.Offsets.{Offsets}
use Rattle.soxchain_job.proofs.Calls.{OnlyNow, joined, no_call}

-- pieces were converted, from this byte of the input to the offsets
pub record HasConverted {C D I : Type 0} (conversions : ConversionModel C) (disks : DiskModel D) (inputs : InputModel I) (job : Job C) (from : ℕ) (disk disk' : D) (input input' : I) (conversion : C) (offsets : Offsets) : Type 0 where
  pub live : BothKnown disks inputs → IsLiveAt conversions disks job conversion offsets disk'
  pub bound : ReadsAtMost inputs input input' (inputs.size input - from)
  pub reads : inputs.delivered input' + from ≡ inputs.delivered input + offsets.taken
  pub failures : inputs.failures input ≤ inputs.failures input'
  pub faults : disks.faults disk ≤ disks.faults disk'
  pub run : GrowsOnly conversions disks inputs job disk disk'

module _ {C D I : Type 0} (conversions : ConversionModel C) (disks : DiskModel D) (inputs : InputModel I) (job : Job C) where
  -- before the first
  pub none_converted : {conversion : C} {disk : D} {input : I} {offsets : Offsets} → OnlyNow disks → CanGrow conversions disks inputs job conversion disk input offsets
      → HasConverted conversions disks inputs job offsets.taken disk disk input input conversion offsets
  none_converted only grows = record {
    live = grows.live;
    bound = record { bytes = record { content = λ k. refl; size = refl }; delivered = omega arith };
    reads = omega arith;
    failures = omega arith;
    faults = omega arith;
    run = λ k. no_call disks (IsGrowing conversions job) only (grows.safe k);
  }

  -- more of them
  pub more_converted : {T : Type 0} {value : T} {from : ℕ} {disk disk' disk'' : D} {input input' input'' : I} {conversion conversion' : C} {offsets offsets' : Offsets}
      → HasConverted conversions disks inputs job from disk disk' input input' conversion offsets → offsets.taken ≤ inputs.size input'
      → (BothKnown disks inputs → IsLiveAt conversions disks job conversion' offsets' disk'') → HasPieceCause conversions disks inputs job disk' disk'' input' input'' (Ok value)
      → ReadsBetween {E = Fault} inputs input' input'' offsets.taken offsets'.taken (Ok value) → GrowsOnly conversions disks inputs job disk' disk''
      → HasConverted conversions disks inputs job from disk disk'' input input'' conversion' offsets'
  more_converted so_far left live cause more run = record {
    live = live;
    bound = record {
      bytes = record { content = λ k. more.bound.bytes.content k ∙ so_far.bound.bytes.content k; size = more.bound.bytes.size ∙ so_far.bound.bytes.size };
      delivered = omega (arith, left, so_far.reads, so_far.bound.bytes.size, more.bound.delivered);
    };
    reads = omega (arith, so_far.reads, more.reads);
    failures = omega (arith, so_far.failures, cause.counts.failures);
    faults = omega (arith, so_far.faults, cause.counts.faults);
    run = λ k. joined (so_far.run k) (run k);
  }
