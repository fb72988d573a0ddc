pub mod AidRuns
