-- `JudgeLaws` has the laws of lists of tests and of outcomes, `Served` those of what services answer, `Endless` those of windows
-- with no end, `Kept` those of the relation, `Keeping` that every request keeps it, `Changer` what a SCSI request
-- comes to and leaves of the slot list, `ChangerRules` the rules of the changer, of tape open and of MTIO 6, `Tcp`
-- the rules of ends by TCP, `Windows` the rules of windows, `Sending` that an answer can be sent, `Numbers` the
-- numbers of replies and refusals, `Guarding` what comes before any call, `Calls` what holds of every call, `Owning`
-- that a record's request is its service's, `Order` that the services commute, `Services` which numbers are whose,
-- `Environment` the rules of the environment and what changes its store, `Shelving` what changes the slot list and
-- what the changer's client is told, `Login` who becomes authorized and by which challenge, `Leaving` what each
-- number leaves and what writes to the cartridge, `Rmt` what a command of rmt leaves and is told, `Alike` that spacing hangs on the kinds of the entries passed.
pub mod JudgeLaws
pub mod Served
pub mod Endless
pub mod Kept
pub mod Keeping
pub mod Changer
pub mod ChangerRules
pub mod Tcp
pub mod Windows
pub mod Sending
pub mod Numbers
pub mod Guarding
pub mod Calls
pub mod Owning
pub mod Order
pub mod Services
pub mod Environment
pub mod Shelving
pub mod Login
pub mod Leaving
pub mod Rmt
pub mod Alike
